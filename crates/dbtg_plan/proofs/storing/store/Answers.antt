use Rattle.std.proofs.Common.{◌∷◌, [], ◌++◌, ◌∙◌, refl, sym, ap, subst, List, Option}
use Rattle.dbtg_cells.specs.declared.key.Owner.{Owner}
use Rattle.dbtg_unit.specs.declared.edit.CellEdit.{CellEdit}
use Rattle.dbtg_unit.specs.Database.State.Units.{seen_with}
use Rattle.dbtg_unit.specs.Hands.Hands.{Hands}
use Rattle.dbtg_unit.specs.Hands.Making.{CanMake}
use Rattle.dbtg_unit.specs.Hands.PlanOf.{storing}
use Rattle.dbtg_unit.specs.Hands.Prepared.{edited_values, values_of}
use Rattle.dbtg_unit.proofs.Public.{made_values}
use Rattle.dbtg_plan.specs.Inside.Store.{edits_of_opening}
use Rattle.dbtg_plan.proofs.Plans.MadeAtOnce.{seen_by_plan}
use Rattle.dbtg_plan.proofs.storing.store.Goals as goal

pub change_cells-requires : goal.change_cells-requires
change_cells-requires c =
    subst (λ (es : List CellEdit). CanMake es c.make_places.new.held.cells) (sym c.in_ok-built.ensures)
    (c.requires c.make_places.new.held c.make_places.ensures.same c.in_ok-make_places.ensures.rooms)

pub returns-clause-made : goal.returns-clause-made
returns-clause-made c =
    let schema = c.args.schema.now in
    let unit = c.args.unit.now in
    let k = c.args.key.now in
    let items = c.args.items.now in
    let suppress = c.args.suppress.now in
    let built = c.in_ok-built.built in
    let made : List CellEdit = built.entering ∷ (built.joins ++ (edits_of_opening schema k ++ built.filling ∷ [])) in
    seen_by_plan schema unit c.see.new.self c.args.held.now c.set_guesses.new.self (storing schema unit items suppress k) _ refl
    (c.see.ensures ∙ ap (λ (owners : List (Option Owner)). seen_with schema unit k owners suppress) (c.as_slice.ensures.value ∙ c.first_owners-owners.ensures))
    (ap (λ (h : Hands). h.areas) c.set_guesses.ensures ∙ c.change_cells.ensures.areas ∙ c.make_places.ensures.same.areas)
    (ap (λ (h : Hands). values_of h.cells) c.set_guesses.ensures ∙ made_values made c.make_places.new.held.cells c.change_cells.new.held.cells c.change_cells.ensures.made
    ∙ (λ i. edited_values (c.in_ok-built.ensures i) (c.make_places.ensures.same.cells i)))
    (ap (λ (h : Hands). h.guesses) c.set_guesses.ensures ∙ c.first_owners-owners.ensures)
