use Rattle.std.proofs.Common.{Some, sym, subst, ◌∙◌, ap}
use Rattle.dbtg_step.specs.Core.Courses.{CourseMatches}
use Rattle.dbtg_step.proofs.TheCore.CoursesMatch.{area_needed}
use Rattle.dbtg_step.proofs.statements.area_next.Goals as goal

pub returns-else-has-clause-need : goal.returns-else-has-clause-need
returns-else-has-clause-need c a db is =
    let wanted = subst (CourseMatches c.args.schema.now c.args.capacity c.args.held.now c.args.unit.now c.args.statement.now) (c.in-Some-Wants.is ∙ ap Some c.in-Some-Wants.field-0-is) c.requires.kept in
    area_needed c.args.schema.now c.args.capacity db c.args.held.now c.args.unit.now c.args.statement.now a wanted.passed (wanted.next (sym c.has.ensures ∙ c.if-has.false) ∙ is)
