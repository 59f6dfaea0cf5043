use Rattle.std.proofs.Common.{sym, ◌∙◌}
use Rattle.dbtg_unit.specs.Database.Statements.Checks.{checks_at_once}
use Rattle.dbtg_unit.proofs.Lists.FirstCauses.{first_in_front, first_behind}
use Rattle.dbtg_unit.proofs.checks.refused_at_once.Goals as goal

pub returns-in-Some : goal.returns-in-Some
returns-in-Some c =
    let checks = checks_at_once c.args.schema.now c.args.capacity c.args.unit.now c.args.statement.now in
    first_in_front 5 checks c.in-Some.cause (sym (c.refused_by_current.ensures c.args.capacity) ∙ c.in-Some.is)

pub returns-in-None : goal.returns-in-None
returns-in-None c =
    let checks = checks_at_once c.args.schema.now c.args.capacity c.args.unit.now c.args.statement.now in
    c.refused_by_areas.ensures ∙ first_behind 5 checks (sym (c.refused_by_current.ensures c.args.capacity) ∙ c.in-None.is)
