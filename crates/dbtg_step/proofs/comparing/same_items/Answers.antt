use Rattle.std.proofs.Common.{◌≡◌, Bool, true, List, Some, sym, subst, ◌∙◌}
use Rattle.std.specs.Bool.{Decides}
use Rattle.std.proofs.lemmas.Option.{same_Some}
use Rattle.dbtg_cells.specs.declared.key.Value.{Value}
use Rattle.dbtg_cells.specs.Keys.{values_eq}
use Rattle.dbtg_cells.proofs.Public.{values_eq_refl, values_eq_same}
use Rattle.dbtg_step.proofs.comparing.same_items.Goals as goal

decides : (r : Bool) (a b : List Value) → r ≡ values_eq a b → Decides r (Some a ≡ Some b)
decides r a b e = (λ t. let same = values_eq_same a b (sym e ∙ t) in (λ i. Some (same i)), λ q. e ∙ subst (λ (c : List Value). values_eq a c ≡ true) (same_Some a b q) (values_eq_refl a))

pub returns-in-Some-Some : goal.returns-in-Some-Some
returns-in-Some-Some c =
    rw (c.in-Some-Some.is-0, c.in-Some-Some.is-1) (decides c.values_eq.result c.in-Some-Some.these c.in-Some-Some.those (c.values_eq.ensures ∙ (λ i. values_eq ((c.as_slice.ensures ∙ c.get.ensures) i) ((c.as_slice-in-Some-Some.ensures ∙ c.get-in-Some-Some.ensures) i))))
