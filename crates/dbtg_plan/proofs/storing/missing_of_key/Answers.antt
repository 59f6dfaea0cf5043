use Rattle.std.proofs.Common.{sym, ◌∙◌, ap, ◌∷◌, []}
use Rattle.std.specs.Prelude.{is_some}
use Rattle.dbtg_unit.specs.Database.State.CellNames.{slot_name}
use Rattle.dbtg_unit.specs.Hands.Needs.{store_rings}
use Rattle.dbtg_plan.proofs.Store.StoreSteps.{missing_behind, missing_here}
use Rattle.dbtg_plan.proofs.storing.missing_of_key.Goals as goal

pub returns-then-is_some : goal.returns-then-is_some
returns-then-is_some c =
    c.missing_in_any_set-ring.ensures
    ∙ sym (missing_here c.args.held.now (store_rings c.args.schema.now c.args.unit.now c.args.key.now) (slot_name c.args.key.now ∷ [])
    (ap is_some (sym c.missing_in_any_set-ring.ensures) ∙ sym c.is_some.ensures ∙ c.if-is_some.true))

pub returns : goal.returns
returns c =
    c.missing_slot.ensures
    ∙ sym (missing_behind c.args.held.now (store_rings c.args.schema.now c.args.unit.now c.args.key.now) (slot_name c.args.key.now ∷ [])
    (ap is_some (sym c.missing_in_any_set-ring.ensures) ∙ sym c.is_some.ensures ∙ c.if-is_some.false))
