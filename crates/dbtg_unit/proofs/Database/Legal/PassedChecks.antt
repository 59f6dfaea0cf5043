-- What a statement that passes its checks has passed.
use Rattle.std.proofs.Common.{◌≡◌, refl, sym, ◌∙◌, ap, subst, ℕ, zero, suc, ◌+◌, ◌<◌, ◌≤◌, Bool, true, false, cond, List, [], ◌∷◌, ◌++◌, Option, Some, None, inl, inr, ⊎_elim, eqb, arith, map}
use Rattle.std.specs.Prelude.{filter}
use Rattle.std.specs.List.{list_any, flat_map, range_with_len}
use Rattle.std.proofs.lemmas.Bool.{or_cases, or_left, or_right, cases_Bool, cond_both, false≢true, eqb-true, eqb-false}
use Rattle.dbtg_schema.specs.Lookups.{first_cause}

-- CHECKS

-- something is not nothing
pub some_none : {X : Type 0} {x : X} → Some x ≡ None → ⊥
some_none h = cc

pub first_check_passes : {C : Type 0} (check : Bool × C) (checks : List (Bool × C)) → first_cause (check ∷ checks) ≡ None → (check.0 ≡ false) × (first_cause checks ≡ None)
first_check_passes check checks h =
    elim (cases_Bool check.0) [
      | inl e ↦ absurd (some_none (ap (λ b. cond b (Some check.1) (first_cause checks)) (sym e) ∙ h))
      | inr e ↦ (e, ap (λ b. cond b (Some check.1) (first_cause checks)) (sym e) ∙ h)
    ]

-- the same of one check, where the others are known by their answer
pub passes_check : {C : Type 0} (b : Bool) (cause : C) (rest : Option C) → cond b (Some cause) rest ≡ None → (b ≡ false) × (rest ≡ None)
passes_check true cause rest h = absurd (some_none h)
passes_check false cause rest h = (refl, h)

pub passes_append : {C : Type 0} (xs ys : List (Bool × C)) → first_cause (xs ++ ys) ≡ None → (first_cause xs ≡ None) × (first_cause ys ≡ None)
passes_append [] ys h = (refl, h)
passes_append (x ∷ xs) ys h =
    let p = first_check_passes x (xs ++ ys) h in
    let r = passes_append xs ys p.1 in
    (ap (λ b. cond b (Some x.1) (first_cause xs)) p.0 ∙ r.0, r.1)

-- a number among others
abbrev pub has_number : ℕ → List ℕ → Bool
has_number s = list_any (λ r. eqb r s)

pub passes_each : {C : Type 0} (f : ℕ → List (Bool × C)) (xs : List ℕ) (s : ℕ) → has_number s xs ≡ true → first_cause (flat_map f xs) ≡ None → first_cause (f s) ≡ None
passes_each f [] s h g = absurd (false≢true h)
passes_each f (x ∷ xs) s h g =
    let p = passes_append (f x) (flat_map f xs) g in
    ⊎_elim (λ e. subst (λ y. first_cause (f y) ≡ None) (eqb-true x s e) p.0) (λ r. passes_each f xs s r p.1) (or_cases _ _ h)

pub passes_map : {C : Type 0} (f : ℕ → Bool × C) (xs : List ℕ) (s : ℕ) → has_number s xs ≡ true → first_cause (map f xs) ≡ None → (f s).0 ≡ false
passes_map f [] s h g = absurd (false≢true h)
passes_map f (x ∷ xs) s h g =
    let p = first_check_passes (f x) (map f xs) g in
    ⊎_elim (λ e. subst (λ y. (f y).0 ≡ false) (eqb-true x s e) p.0) (λ r. passes_map f xs s r p.1) (or_cases _ _ h)

-- NUMBERS

pub number_passes : (p : ℕ → Bool) (s : ℕ) (xs : List ℕ) → has_number s (filter p xs) ≡ true → (has_number s xs ≡ true) × (p s ≡ true)
number_passes p s [] h = absurd (false≢true h)
number_passes p s (x ∷ xs) h =
    elim (cases_Bool (p x)) [
      | inl e ↦ ⊎_elim
          (λ same. (or_left _ _ same, subst (λ y. p y ≡ true) (eqb-true x s same) e))
          (λ rest. let r = number_passes p s xs rest in (or_right _ _ r.0, r.1))
          (or_cases (eqb x s) (has_number s (filter p xs)) (subst (λ b. has_number s (cond b (x ∷ filter p xs) (filter p xs)) ≡ true) e h))
      | inr e ↦ let r = number_passes p s xs (subst (λ b. has_number s (cond b (x ∷ filter p xs) (filter p xs)) ≡ true) e h) in (or_right _ _ r.0, r.1)
    ]

pub number_kept : (p : ℕ → Bool) (s : ℕ) (xs : List ℕ) → has_number s xs ≡ true → p s ≡ true → has_number s (filter p xs) ≡ true
number_kept p s [] h g = h
number_kept p s (x ∷ xs) h g =
    ⊎_elim
    (λ same. let e : p x ≡ true = subst (λ y. p y ≡ true) (sym (eqb-true x s same)) g in subst (λ b. has_number s (cond b (x ∷ filter p xs) (filter p xs)) ≡ true) (sym e) (or_left _ _ same))
    (λ rest. cond_both (p x) _ _ (λ zs. has_number s zs ≡ true) (λ e. or_right _ _ (number_kept p s xs rest g)) (λ e. number_kept p s xs rest g))
    (or_cases _ _ h)

pub number_in : (s a n : ℕ) → a ≤ s → s < a + n → has_number s (range_with_len a n) ≡ true
number_in s a zero low high = absurd (omega arith)
number_in s a (suc n) low high =
    elim (cases_Bool (eqb a s)) [
      | inl e ↦ or_left _ _ e
      | inr e ↦ let ne = eqb-false a s e in or_right _ _ (number_in s (a + 1) n (omega arith) (omega arith))
    ]

pub number_within : (s a n : ℕ) → has_number s (range_with_len a n) ≡ true → (a ≤ s) × (s < a + n)
number_within s a zero h = absurd (false≢true h)
number_within s a (suc n) h =
    ⊎_elim
    (λ e. let same = eqb-true a s e in (omega arith, omega arith))
    (λ r. let w = number_within s (a + 1) n r in let low = w.0 in let high = w.1 in (omega arith, omega arith))
    (or_cases _ _ h)

-- if a number of a list passes, some number passes
pub any_number : (p : ℕ → Bool) (n : ℕ) (xs : List ℕ) → has_number n xs ≡ true → p n ≡ true → list_any p xs ≡ true
any_number p n [] h g = absurd (false≢true h)
any_number p n (x ∷ xs) h g =
    ⊎_elim (λ e. or_left _ _ (subst (λ y. p y ≡ true) (sym (eqb-true x n e)) g)) (λ r. or_right _ _ (any_number p n xs r g)) (or_cases _ _ h)
