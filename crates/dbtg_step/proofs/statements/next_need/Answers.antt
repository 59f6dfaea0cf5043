use Rattle.std.proofs.Common.{Some, subst, ap, ◌∙◌}
use Rattle.dbtg_unit.specs.declared.held.Need.TheVariants.{Area}
use Rattle.dbtg_step.specs.Core.Courses.{CourseMatches}
use Rattle.dbtg_step.proofs.TheCore.CoursesMatch.{refused_needs}
use Rattle.dbtg_step.proofs.TheCore.NeedsOrdered.{above_hands, above_of, in_held_area}
use Rattle.dbtg_step.proofs.statements.next_need.Goals as goal

pub returns-in-Some-clause-above : goal.returns-in-Some-clause-above
returns-in-Some-clause-above c =
    above_of c.args.schema.now c.args.capacity c.args.unit.now c.args.statement.now c.args.held.now (Area c.in-Some.area) (λ db agrees. c.area_next.ensures.need c.in-Some.area db c.in-Some.is)

pub returns-in-Some-HasAreas-clause-above : goal.returns-in-Some-HasAreas-clause-above
returns-in-Some-HasAreas-clause-above c =
    above_hands c.args.schema.now c.args.capacity c.args.unit.now c.args.statement.now c.args.held.now c.need_with_areas.result c.need_with_areas.ensures.need

pub returns-in-Some-HasAreas-clause-in_area : goal.returns-in-Some-HasAreas-clause-in_area
returns-in-Some-HasAreas-clause-in_area c =
    in_held_area c.args.schema.now c.args.capacity c.args.unit.now c.args.statement.now c.args.held.now c.need_with_areas.result c.need_with_areas.ensures.need

pub returns-in-Some-Refused-clause-need : goal.returns-in-Some-Refused-clause-need
returns-in-Some-Refused-clause-need c = λ db agrees.
    refused_needs c.args.schema.now c.args.capacity db c.args.held.now c.args.unit.now c.args.statement.now
    (subst (CourseMatches c.args.schema.now c.args.capacity c.args.held.now c.args.unit.now c.args.statement.now) (c.in-Some-Refused.is ∙ ap Some c.in-Some-Refused.field-0-is) c.area_next.ensures.kept)
