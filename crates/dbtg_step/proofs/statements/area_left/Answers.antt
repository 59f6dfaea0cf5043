use Rattle.std.proofs.Common.{sym, ◌∙◌}
use Rattle.dbtg_step.proofs.TheCore.CoursesMatch.{area_needed, no_cells}
use Rattle.dbtg_step.proofs.statements.area_left.Goals as goal

pub returns-in-Some-clause-kept : goal.returns-in-Some-clause-kept
returns-in-Some-clause-kept c = record { passed = c.requires.passed; next = λ gone. sym c.next_area.ensures ∙ c.in-Some.is }

pub returns-in-Some-clause-need : goal.returns-in-Some-clause-need
returns-in-Some-clause-need c a db is =
    area_needed c.args.schema.now c.args.capacity db c.args.held.now c.args.unit.now c.args.statement.now a c.requires.passed (sym c.next_area.ensures ∙ c.in-Some.is ∙ is)

pub returns-in-None-clause-kept : goal.returns-in-None-clause-kept
returns-in-None-clause-kept c =
    (record { passed = c.requires.passed; areas = sym c.next_area.ensures ∙ c.in-None.is }, no_cells c.args.schema.now c.args.capacity c.args.held.now c.args.unit.now c.args.statement.now)
