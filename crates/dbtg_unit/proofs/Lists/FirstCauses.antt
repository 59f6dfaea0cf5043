-- The first cause in a list of checks, from its front and from the rest.
use Rattle.std.proofs.Common.{◌≡◌, ℕ, zero, suc, Bool, true, false, cond, List, [], ◌∷◌, take, drop, Option, Some, None, refl, sym}
use Rattle.dbtg_schema.specs.Lookups.{first_cause}

none_is_some : {C : Type 0} (x : C) → ◌≡◌ {A = Option C} None (Some x) → {A : Type 0} → A
none_is_some x e = cc

-- a cause in front is the first of all
pub first_in_front : {C : Type 0} (n : ℕ) (checks : List (Bool × C)) (cause : C) → first_cause (take n checks) ≡ Some cause → Some cause ≡ first_cause checks
first_in_front zero checks cause e = none_is_some cause e
first_in_front (suc n) [] cause e = none_is_some cause e
first_in_front (suc n) (check ∷ checks) cause e =
    (elim check.0 as (λ b. cond b (Some check.1) (first_cause (take n checks)) ≡ Some cause → Some cause ≡ cond b (Some check.1) (first_cause checks)) [
      | true ↦ λ f. sym f
      | false ↦ λ f. first_in_front n checks cause f
    ]) e

-- if none is in front, the first of the rest is the first of all
pub first_behind : {C : Type 0} (n : ℕ) (checks : List (Bool × C)) → first_cause (take n checks) ≡ None → first_cause (drop n checks) ≡ first_cause checks
first_behind zero checks e = refl
first_behind (suc n) [] e = refl
first_behind (suc n) (check ∷ checks) e =
    (elim check.0 as (λ b. cond b (Some check.1) (first_cause (take n checks)) ≡ None → first_cause (drop n checks) ≡ cond b (Some check.1) (first_cause checks)) [
      | true ↦ λ f. none_is_some check.1 (sym f)
      | false ↦ λ f. first_behind n checks f
    ]) e
