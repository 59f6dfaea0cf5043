-- What is found in a list that a function makes, in joined lists, and in what a test keeps.
use Rattle.std.proofs.Common.{◌≡◌, refl, ◌∙◌, ap, ℕ, zero, suc, ◌+◌, ◌<◌, ◌≤◌, Bool, true, false, cond, ◌&&◌, ◌||◌, List, [], ◌∷◌, Option, Some, None, inl, inr, map, arith}
use Rattle.std.specs.Prelude.{filter, is_some, option_map, slice_get}
use Rattle.std.specs.List.{find, list_any, range_with_len}
use Rattle.std.specs.Option.{option_or}
use Rattle.dbtg_unit.proofs.Public.{In}

-- the first of those that a function makes, taken back
pub found_back : {X Y : Type 0} (p : Y → Bool) (f : X → Y) (h : Y → X) → ((x : X) → h (f x) ≡ x) → (xs : List X) → option_map h (find p (map f xs)) ≡ find (λ x. p (f x)) xs
found_back p f h e [] = refl
found_back p f h e (x ∷ xs) =
    elim (p (f x)) as (λ b. option_map h (cond b (Some (f x)) (find p (map f xs))) ≡ cond b (Some x) (find (λ y. p (f y)) xs)) [ true ↦ ap Some (e x) | false ↦ found_back p f h e xs ]

-- some element passes where one is found
pub any_is_found : {X : Type 0} (p : X → Bool) (xs : List X) → is_some (find p xs) ≡ list_any p xs
any_is_found p [] = refl
any_is_found p (x ∷ xs) = elim (p x) as (λ b. is_some (cond b (Some x) (find p xs)) ≡ (b || list_any p xs)) [ true ↦ refl | false ↦ any_is_found p xs ]

-- some of those that a function makes
pub any_map : {X Y : Type 0} (p : Y → Bool) (f : X → Y) (xs : List X) → list_any p (map f xs) ≡ list_any (λ x. p (f x)) xs
any_map p f [] = refl
any_map p f (x ∷ xs) = ap (λ b. p (f x) || b) (any_map p f xs)

-- what stands beside the one element that passes
pub found_beside : {X Y : Type 0} (test : X → Bool) (k : X) → ((x : X) → test x ≡ true → x ≡ k) → (f : X → Y) (xs : List X)
    → option_map (λ (e : X × Y). e.1) (find (λ (e : X × Y). test e.0) (map (λ x. (x, f x)) xs)) ≡ cond (list_any test xs) (Some (f k)) None
found_beside test k same f [] = refl
found_beside {X} {Y} test k same f (x ∷ xs) = by (find (λ (e : X × Y). test e.0) (map (λ y. (y, f y)) xs)) (test x) refl (found_beside test k same f xs) where
  by : (rest : Option (X × Y)) (b : Bool) → test x ≡ b → option_map (λ (e : X × Y). e.1) rest ≡ cond (list_any test xs) (Some (f k)) None
      → option_map (λ (e : X × Y). e.1) (cond b (Some (x, f x)) rest) ≡ cond (b || list_any test xs) (Some (f k)) None
  by rest true h behind = ap (λ y. Some (f y)) (same x h)
  by rest false h behind = behind

-- tests that agree on a list find the same
pub found_agree : {X : Type 0} (p q : X → Bool) (xs : List X) → ((x : X) → In x xs → p x ≡ q x) → find p xs ≡ find q xs
found_agree p q [] same = refl
found_agree p q (x ∷ xs) same = λ i. cond (same x (inl refl) i) (Some x) (found_agree p q xs (λ y at. same y (inr at)) i)

-- a test that nothing passes
pub found_none : {X : Type 0} (xs : List X) → find (λ x. false) xs ≡ None
found_none [] = refl
found_none (x ∷ xs) = found_none xs

-- the first of those that another test keeps
pub found_kept : {X : Type 0} (p q : X → Bool) (xs : List X) → find (λ x. p x && q x) xs ≡ find q (filter p xs)
found_kept p q [] = refl
found_kept p q (x ∷ xs) =
    elim (p x) as (λ b. cond (b && q x) (Some x) (find (λ y. p y && q y) xs) ≡ find q (cond b (x ∷ filter p xs) (filter p xs))) [
      | true ↦ ap (cond (q x) (Some x)) (found_kept p q xs)
      | false ↦ found_kept p q xs
    ]

-- the same again, or nothing
pub or_itself : {X : Type 0} (o : Option X) (b : Bool) → option_or o (cond b o None) ≡ o
or_itself None true = refl
or_itself None false = refl
or_itself (Some x) b = refl

-- a list without elements
pub no_elements : {X : Type 0} (xs : List X) → ((x : X) → In x xs → ⊥) → xs ≡ []
no_elements [] none = refl
no_elements (x ∷ xs) none = absurd (none x (inl refl))

-- the i-th of what a range of numbers makes
pub got : {X : Type 0} (g : ℕ → X) (n a i : ℕ) → i < n → slice_get (map g (range_with_len a n)) i ≡ Some (g (a + i))
got g zero a i h = absurd (omega arith)
got g (suc n) a zero h = ap (λ m. Some (g m)) (omega arith)
got g (suc n) a (suc i) h = got g n (a + 1) i (omega arith) ∙ ap (λ m. Some (g m)) (omega arith)

-- counted from 0
pub got_at : {X : Type 0} (g : ℕ → X) (n i : ℕ) → i < n → slice_get (map g (range_with_len 0 n)) i ≡ Some (g i)
got_at g n i h = got g n 0 i h ∙ ap (λ m. Some (g m)) (omega arith)

-- and past it
pub got_past : {X : Type 0} (g : ℕ → X) (n a i : ℕ) → n ≤ i → slice_get (map g (range_with_len a n)) i ≡ None
got_past g zero a i h = refl
got_past g (suc n) a zero h = absurd (omega arith)
got_past g (suc n) a (suc i) h = got_past g n (a + 1) i (omega arith)
