-- Whoever waits for something waits below what its holder waits for: among finitely many, one doesn't wait.
use Rattle.dbtg_step.specs.Machine.SequentialDatabase.{unit_at}
use Rattle.std.proofs.Common.{ℕ, zero, suc, ◌+◌, ◌≡◌, ◌<◌, ◌≤◌, Bool, true, false, List, [], ◌∷◌, Option, Some, None, slice_get, ◌⊎◌, inl, inr, refl, arith}

unfoldable number : Bool → ℕ
number true = 1
number false = 0

-- how many pass
unfoldable count : {X : Type 0} → (X → Bool) → List X → ℕ
count p [] = 0
count p (x ∷ xs) = number (p x) + count p xs

number_le : (a b : Bool) → (a ≡ true → b ≡ true) → number a ≤ number b
unfolding number
number_le true b f = rw (f refl) (omega arith)
number_le false b f = omega arith

count_le : {X : Type 0} (p q : X → Bool) (xs : List X) → ((x : X) → p x ≡ true → q x ≡ true) → count p xs ≤ count q xs
unfolding count
count_le p q [] f = omega arith
count_le p q (x ∷ xs) f = let a = number_le (p x) (q x) (f x) in let b = count_le p q xs f in omega arith

-- fewer pass the harder test, if one that fails it passed
count_lt : {X : Type 0} (p q : X → Bool) (xs : List X) (w : ℕ) (x : X) → ((y : X) → p y ≡ true → q y ≡ true) → slice_get xs w ≡ Some x → p x ≡ false → q x ≡ true → count p xs < count q xs
unfolding count number
count_lt p q [] w x f g a b = absurd (cc)
count_lt p q (y ∷ ys) zero x f g a b =
    let e : y ≡ x = cc in
    let k = count_le p q ys f in
    rw (e, a, b) (omega arith)
count_lt p q (y ∷ ys) (suc w) x f g a b =
    let k = number_le (p y) (q y) (f y) in
    let r = count_lt p q ys w x f g a b in
    omega arith

-- the same by number
count_less : {X : Type 0} (p q : X → Bool) (xs : List X) (u : ℕ) (x : X) → ((y : X) → p y ≡ true → q y ≡ true) → unit_at xs u ≡ Some x → p x ≡ false → q x ≡ true → count p xs < count q xs
unfolding unit_at
count_less p q xs zero x f g a b = absurd (cc (g))
count_less p q xs (suc u) x f g a b = count_lt p q xs u x f g a b

pub record Higher (R : Type 0) (lt : R → R → Bool) (ws : List (Option R)) (r : R) : Type 0 where
  pub who : ℕ
  pub what : R
  pub at : unit_at ws who ≡ Some (Some what)
  pub higher : lt r what ≡ true

module _ (R : Type 0) (lt : R → R → Bool) (never : (r : R) → lt r r ≡ false) (chain : (a b c : R) → lt a b ≡ true → lt b c ≡ true → lt a c ≡ true) (Found : Type 0) where
  above : R → Option R → Bool
  above r None = false
  above r (Some q) = lt r q

  above_chain : (a b : R) → lt a b ≡ true → (o : Option R) → above b o ≡ true → above a o ≡ true
  unfolding above
  above_chain a b l None e = e
  above_chain a b l (Some q) e = chain a b q l e

  go_up : (n : ℕ) (ws : List (Option R)) → ((u : ℕ) (r : R) → unit_at ws u ≡ Some (Some r) → Found ⊎ Higher R lt ws r) → (u : ℕ) (r : R) → unit_at ws u ≡ Some (Some r) → count (above r) ws < n → Found
  unfolding above
  go_up zero ws next u r e l = absurd (omega arith)
  go_up (suc n) ws next u r e l = elim (next u r e) [
    | inl f ↦ f
    | inr h ↦
        let k = count_less (above h.what) (above r) ws h.who (Some h.what) (above_chain r h.what h.higher) h.at (never h.what) h.higher in
        let m : count (above h.what) ws < n = omega (arith, k, l) in
        go_up n ws next h.who h.what h.at m
  ]

  pub climb : (ws : List (Option R)) → ((u : ℕ) (r : R) → unit_at ws u ≡ Some (Some r) → Found ⊎ Higher R lt ws r) → (u : ℕ) (r : R) → unit_at ws u ≡ Some (Some r) → Found
  climb ws next u r e = go_up (suc (count (above r) ws)) ws next u r e (omega arith)
