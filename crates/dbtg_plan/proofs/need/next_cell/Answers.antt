use Rattle.std.proofs.Common.{◌≡◌, true, sym, ◌∙◌, ap, subst}
use Rattle.std.proofs.lemmas.Bool.{and_parts}
use Rattle.dbtg_unit.specs.declared.statement.Statement.{Statement}
use Rattle.dbtg_unit.specs.declared.statement.Statement.TheVariants.{Modify}
use Rattle.dbtg_unit.specs.Database.Statements.Fits.{fits}
use Rattle.dbtg_unit.specs.Hands.Needs.{cells_of, first_missing}
use Rattle.dbtg_plan.proofs.Find.FindPlans.{next_cell_is}
use Rattle.dbtg_plan.proofs.Plans.StoreHolds.{missing_in_hand}
use Rattle.dbtg_plan.proofs.need.next_cell.Goals as goal

pub returns-in-Find : goal.returns-in-Find
returns-in-Find c db agrees =
    let fit = (and_parts _ _ (subst (λ (s : Statement). fits c.args.schema.now s ≡ true) c.in-Find.is c.requires.fits)).0 in
    c.next_cell_of_find.ensures
    ∙ next_cell_is c.args.schema.now c.args.capacity db c.args.held.now c.args.unit.now agrees c.requires.of_schema c.in-Find.form fit
    ∙ ap (λ (s : Statement). first_missing c.args.held.now (cells_of c.args.schema.now c.args.capacity db c.args.unit.now c.args.held.now.guesses s)) (sym c.in-Find.is)

pub returns-in-Insert : goal.returns-in-Insert
returns-in-Insert c db agrees =
    c.next_cell_of_insert.ensures c.args.capacity db
    ∙ ap (λ (s : Statement). first_missing c.args.held.now (cells_of c.args.schema.now c.args.capacity db c.args.unit.now c.args.held.now.guesses s)) (sym c.in-Insert.is)

pub returns-in-Remove : goal.returns-in-Remove
returns-in-Remove c db agrees =
    c.next_cell_of_remove.ensures c.args.schema.now c.args.capacity db
    ∙ ap (λ (s : Statement). first_missing c.args.held.now (cells_of c.args.schema.now c.args.capacity db c.args.unit.now c.args.held.now.guesses s)) (sym c.in-Remove.is)

pub returns-in-Modify : goal.returns-in-Modify
returns-in-Modify c db agrees =
    c.next_cell_of_modify.ensures c.args.capacity db
    ∙ ap (λ (s : Statement). first_missing c.args.held.now (cells_of c.args.schema.now c.args.capacity db c.args.unit.now c.args.held.now.guesses s)) (ap (Modify c.in-Modify.rtype) (c.as_slice.ensures ∙ c.get.ensures) ∙ sym c.in-Modify.is)

pub returns-in-Store : goal.returns-in-Store
returns-in-Store c db agrees =
    c.next_cell_of_store.ensures
    ∙ missing_in_hand c.args.schema.now c.args.capacity c.args.unit.now c.args.held.now c.in-Store.rtype c.in-Store.items db agrees c.args.held.now.guesses c.in-Store.suppress
    ∙ ap (λ (s : Statement). first_missing c.args.held.now (cells_of c.args.schema.now c.args.capacity db c.args.unit.now c.args.held.now.guesses s)) (sym c.in-Store.is)
