use Rattle.std.proofs.Common.{◌∙◌}
use Rattle.std.specs.Prelude.{Ok, Err}
use Rattle.dbtg_plan.proofs.Find.FindPlans.{next_first, next_slot}
use Rattle.dbtg_plan.proofs.finding.next_cell_of_find.Goals as goal

pub returns-in-Some : goal.returns-in-Some
returns-in-Some c = next_first c.args.schema.now c.args.unit.now c.args.held.now c.args.form.now c.in-Some.name c.in-Some.ensures

pub returns-in-Ok : goal.returns-in-Ok
returns-in-Ok c = c.missing_slot.ensures ∙ next_slot c.args.schema.now c.args.unit.now c.args.held.now c.args.form.now (Ok c.in-Ok.key) c.in-None.ensures c.in-Ok.ensures

pub returns-in-Err : goal.returns-in-Err
returns-in-Err c = next_slot c.args.schema.now c.args.unit.now c.args.held.now c.args.form.now (Err c.in-Err._cause) c.in-None.ensures c.in-Err.ensures
