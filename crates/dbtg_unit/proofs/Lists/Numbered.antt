-- A list that is rewritten in place, entry by entry, each by its number and what it was.
use Rattle.std.proofs.Common.{◌≡◌, refl, sym, ◌∙◌, ap, ℕ, zero, suc, ◌+◌, ◌<◌, Bool, true, false, ◌||◌, ◌==◌, cond, List, [], ◌∷◌, Some, length, arith}
use Rattle.std.specs.Prelude.{map, slice_get, slice_set}
use Rattle.std.specs.List.{enumerate_from}
use Rattle.std.proofs.lemmas.Bool.Decides.{nat_tests}

module _ {X : Type 0} (f : ℕ × X → X) where
  -- the whole as it will be, if this many entries are rewritten
  abbrev pub rewritten : ℕ → ℕ → List X → List X
  rewritten n zero xs = map f (enumerate_from n xs)
  rewritten n (suc i) [] = []
  rewritten n (suc i) (x ∷ xs) = x ∷ rewritten (n + 1) i xs

  pub rewritten_all : (n : ℕ) (xs : List X) → rewritten n (length xs) xs ≡ xs
  rewritten_all n [] = refl
  rewritten_all n (x ∷ xs) = ap (λ ys. x ∷ ys) (rewritten_all (n + 1) xs)

  pub rewritten_more : (n i : ℕ) (xs : List X) (x : X) → slice_get xs i ≡ Some x → rewritten n (suc i) (slice_set xs i (f (n + i, x))) ≡ rewritten n i xs
  rewritten_more n i [] x h = cc
  rewritten_more n zero (y ∷ ys) x h = let z : n + 0 ≡ n = omega arith in cc
  rewritten_more n (suc i) (y ∷ ys) x h =
      let z : n + suc i ≡ (n + 1) + i = omega arith in
      ap (λ zs. y ∷ zs) (rw z (rewritten_more (n + 1) i ys x h))

  pub rewritten_next : (i : ℕ) (xs : List X) (x : X) → slice_get xs i ≡ Some x → rewritten 0 (i + 1) (slice_set xs i (f (i, x))) ≡ rewritten 0 i xs
  rewritten_next i xs x h =
      let place : i ≡ 0 + i = omega arith in
      let next : i + 1 ≡ suc i = omega arith in
      ap (λ k. rewritten 0 (i + 1) (slice_set xs i (f (k, x)))) place ∙ ap (λ k. rewritten 0 k (slice_set xs i (f (0 + i, x)))) next ∙ rewritten_more 0 i xs x h

-- what is made of entries by their numbers, and of that by the same numbers
pub made_twice : {X : Type 0} (f g : ℕ × X → X) (n : ℕ) (xs : List X) → map g (enumerate_from n (map f (enumerate_from n xs))) ≡ map (λ e. g (e.0, f e)) (enumerate_from n xs)
made_twice f g n [] = refl
made_twice f g n (x ∷ xs) = ap (λ ys. g (n, f (n, x)) ∷ ys) (made_twice f g (n + 1) xs)

module _ {X : Type 0} (v : X) where
  -- an entry whose number passes is v
  abbrev pub written : (ℕ → Bool) → ℕ × X → X
  written p e = cond (p e.0) v e.1

  written_past : (p : ℕ → Bool) (t n : ℕ) (xs : List X) → t < n → map (written p) (enumerate_from n xs) ≡ map (written (λ m. (m == t) || p m)) (enumerate_from n xs)
  written_past p t n [] l = refl
  written_past p t n (x ∷ xs) l =
      let other : n == t ≡ false = grind (arith, nat_tests) in
      let here : p n ≡ ((n == t) || p n) = sym (ap (λ b. b || p n) other) in
      λ i. cond (here i) v x ∷ written_past p t (n + 1) xs (omega (arith, l)) i

  -- where v is written at one number first
  written_from : (p : ℕ → Bool) (n k : ℕ) (xs : List X) → map (written p) (enumerate_from n (slice_set xs k v)) ≡ map (written (λ m. (m == n + k) || p m)) (enumerate_from n xs)
  written_from p n k [] = refl
  written_from p n zero (x ∷ xs) =
      let here : n == n + 0 ≡ true = grind (arith, nat_tests) in
      (λ i. v_is (p n) i ∷ written_past p (n + 0) (n + 1) xs (omega arith) i) ∙ ap (λ b. cond (b || p n) v x ∷ map (written (λ m. (m == n + 0) || p m)) (enumerate_from (n + 1) xs)) (sym here)
    where
      v_is : (b : Bool) → cond b v v ≡ v
      v_is true = refl
      v_is false = refl
  written_from p n (suc k) (x ∷ xs) =
      let other : n == n + suc k ≡ false = grind (arith, nat_tests) in
      let place : (n + 1) + k ≡ n + suc k = omega arith in
      λ i. cond (sym (ap (λ b. b || p n) other) i) v x ∷ (written_from p (n + 1) k xs ∙ ap (λ t. map (written (λ m. (m == t) || p m)) (enumerate_from (n + 1) xs)) place) i

  pub written_first : (p : ℕ → Bool) (k : ℕ) (xs : List X) → map (written p) (enumerate_from 0 (slice_set xs k v)) ≡ map (written (λ m. (m == k) || p m)) (enumerate_from 0 xs)
  written_first p k xs = let place : 0 + k ≡ k = omega arith in written_from p 0 k xs ∙ ap (λ t. map (written (λ m. (m == t) || p m)) (enumerate_from 0 xs)) place

  -- where no number passes, all stays
  pub written_nowhere : (n : ℕ) (xs : List X) → map (written (λ m. false)) (enumerate_from n xs) ≡ xs
  written_nowhere n [] = refl
  written_nowhere n (x ∷ xs) = ap (λ ys. x ∷ ys) (written_nowhere (n + 1) xs)
