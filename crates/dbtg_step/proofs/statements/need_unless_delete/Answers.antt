use Rattle.std.proofs.Common.{sym, ap, ◌∙◌}
use Rattle.std.specs.Prelude.{is_some}
use Rattle.dbtg_step.proofs.TheCore.CoursesMatch.{area_needed, refused_needs}
use Rattle.dbtg_step.proofs.statements.need_unless_delete.Goals as goal

pub returns-in-Some : goal.returns-in-Some
returns-in-Some c db agrees =
    refused_needs c.args.schema.now c.args.capacity db c.args.held.now c.args.unit.now c.args.statement.now (ap is_some (sym c.refused_at_once.ensures ∙ c.in-Some.is))

pub returns-in-Some-next_area : goal.returns-in-Some-next_area
returns-in-Some-next_area c db agrees =
    area_needed c.args.schema.now c.args.capacity db c.args.held.now c.args.unit.now c.args.statement.now c.in-Some-next_area.area (sym c.refused_at_once.ensures ∙ c.in-None.is) (sym c.next_area.ensures ∙ c.in-Some-next_area.is)
