-- Which check the first cause of some checks belongs to.
use Rattle.std.proofs.Common.{◌≡◌, refl, ◌∙◌, ap, ℕ, Bool, true, false, cond, List, [], ◌∷◌, ◌++◌, Option, Some, None, inl, inr, map}
use Rattle.std.specs.Prelude.{⊤, ◌⊎◌, is_some, option_and_then, option_map}
use Rattle.std.specs.List.{find, flat_map, list_any}
use Rattle.std.proofs.lemmas.Bool.{false≢true, or_left, or_right}
use Rattle.std.proofs.lemmas.Option.{same_Some}
use Rattle.dbtg_schema.specs.Lookups.{first_cause, some_and}
use Rattle.dbtg_unit.proofs.Public.{first_check_passes}

-- OPTIONS

-- what is made of something is something
pub map_some : {X Y : Type 0} (f : X → Y) (o : Option X) → is_some (option_map f o) ≡ is_some o
map_some f None = refl
map_some f (Some x) = refl

-- so is what follows from it, if that is something
pub then_some : {X Y : Type 0} (f : X → Option Y) (o : Option X) (x : X) → o ≡ Some x → is_some (f x) ≡ true → is_some (option_and_then f o) ≡ true
then_some f o x is there = ap (λ p. is_some (option_and_then f p)) is ∙ there

-- what passes a test is there
pub passing_some : {X : Type 0} (test : X → Bool) (o : Option X) → some_and test o ≡ true → is_some o ≡ true
passing_some test None h = absurd (false≢true h)
passing_some test (Some x) h = refl

-- CHECKS

-- it belongs to the first check, or that does not hold and it belongs to a later one
pub first_of : {C : Type 0} (check : Bool × C) (checks : List (Bool × C)) (why : C) → first_cause (check ∷ checks) ≡ Some why → ((check.0 ≡ true) × (check.1 ≡ why)) ⊎ ((check.0 ≡ false) × (first_cause checks ≡ Some why))
first_of {C} check checks why h = by check.0 refl h where
  by : (b : Bool) → check.0 ≡ b → cond b (Some check.1) (first_cause checks) ≡ Some why → ((check.0 ≡ true) × (check.1 ≡ why)) ⊎ ((check.0 ≡ false) × (first_cause checks ≡ Some why))
  by true e h = inl (e, same_Some check.1 why h)
  by false e h = inr (e, h)

-- it belongs to one of the checks, and those before that do not hold
abbrev pub FirstIn : {C : Type 0} → List (Bool × C) → C → Type 0
FirstIn [] why = ⊥
FirstIn (check ∷ checks) why = ((check.0 ≡ true) × (check.1 ≡ why)) ⊎ ((check.0 ≡ false) × FirstIn checks why)

pub first_in : {C : Type 0} (checks : List (Bool × C)) (why : C) → first_cause checks ≡ Some why → FirstIn checks why
first_in [] why h = cc (h)
first_in (check ∷ checks) why h =
    elim (first_of check checks why h) [
      | inl p ↦ inl p
      | inr r ↦ inr (r.0, first_in checks why r.1)
    ]

-- where there is none, no check holds
abbrev pub NoneHolds : {C : Type 0} → List (Bool × C) → Type 0
NoneHolds [] = ⊤
NoneHolds (check ∷ checks) = (check.0 ≡ false) × NoneHolds checks

pub none_holds : {C : Type 0} (checks : List (Bool × C)) → first_cause checks ≡ None → NoneHolds checks
none_holds [] h = tt
none_holds (check ∷ checks) h = let passed = first_check_passes check checks h in (passed.0, none_holds checks passed.1)

-- it belongs to one of the front checks, or none of those holds and it belongs to a later one
pub first_joined : {C : Type 0} (xs ys : List (Bool × C)) (why : C) → first_cause (xs ++ ys) ≡ Some why → (first_cause xs ≡ Some why) ⊎ ((first_cause xs ≡ None) × (first_cause ys ≡ Some why))
first_joined [] ys why h = inr (refl, h)
first_joined (x ∷ xs) ys why h =
    elim (first_of x (xs ++ ys) why h) [
      | inl p ↦ inl (ap (λ b. cond b (Some x.1) (first_cause xs)) p.0 ∙ ap Some p.1)
      | inr r ↦ elim (first_joined xs ys why r.1) [
        | inl q ↦ inl (ap (λ b. cond b (Some x.1) (first_cause xs)) r.0 ∙ q)
        | inr q ↦ inr (ap (λ b. cond b (Some x.1) (first_cause xs)) r.0 ∙ q.0, q.1)
      ]
    ]

-- with checks for each number, it is that of the first number which has one
pub first_of_each : {C : Type 0} (f : ℕ → List (Bool × C)) (sets : List ℕ) (why : C) → first_cause (flat_map f sets) ≡ Some why → (s : ℕ) × (find (λ r. is_some (first_cause (f r))) sets ≡ Some s) × (first_cause (f s) ≡ Some why)
first_of_each f [] why h = absurd (cc (h))
first_of_each f (s ∷ ss) why h =
    elim (first_joined (f s) (flat_map f ss) why h) [
      | inl p ↦ (s, ap (λ o. cond (is_some o) (Some s) (find (λ r. is_some (first_cause (f r))) ss)) p, p)
      | inr p ↦ let r = first_of_each f ss why p.1 in (r.0, ap (λ o. cond (is_some o) (Some s) (find (λ r. is_some (first_cause (f r))) ss)) p.0 ∙ r.1, r.2)
    ]

-- with one test for each number and one cause, some number passes
pub first_of_tests : {C : Type 0} (test : ℕ → Bool) (c why : C) (sets : List ℕ) → first_cause (map (λ s. (test s, c)) sets) ≡ Some why → (c ≡ why) × (list_any test sets ≡ true)
first_of_tests test c why [] h = absurd (cc (h))
first_of_tests test c why (s ∷ ss) h =
    elim (first_of (test s, c) (map (λ s. (test s, c)) ss) why h) [
      | inl p ↦ (p.1, or_left _ _ p.0)
      | inr r ↦ let behind = first_of_tests test c why ss r.1 in (behind.0, or_right _ _ behind.1)
    ]
