use Rattle.std.proofs.Common.{sym, ◌∙◌, subst, refl}
use Rattle.dbtg_unit.specs.Hands.Making.{CanFinish}
use Rattle.dbtg_unit.specs.Hands.Prepared.{Plan}
use Rattle.dbtg_unit.proofs.Public.{plan_makes}
use Rattle.dbtg_plan.proofs.Plans.PartByPart.{refused_finishes, makes_if_ok}
use Rattle.dbtg_plan.proofs.preparing.prepare.Goals as goal

pub returns-in-Some-clause-prepared : goal.returns-in-Some-clause-prepared
returns-in-Some-clause-prepared c =
    subst (λ (plan : Plan). CanFinish c.args.schema.now c.args.capacity c.args.unit.now c.args.held.now c.args.statement.now plan) (sym c.refused.ensures)
    (refused_finishes c.args.schema.now c.args.capacity c.args.unit.now c.args.held.now c.args.statement.now c.in-Some.cause (sym c.refused_at_once.ensures ∙ c.in-Some.is))

pub returns-in-Some-clause-made : goal.returns-in-Some-clause-made
returns-in-Some-clause-made c =
    plan_makes c.args.schema.now c.args.capacity c.args.unit.now c.args.statement.now c.refused.result c.args.held.now c.args.held.now c.requires.may (record { areas = refl; cells = refl; guesses = refl }) (returns-in-Some-clause-prepared c)

pub returns-in-None-clause-made : goal.returns-in-None-clause-made
returns-in-None-clause-made c =
    makes_if_ok c.args.schema.now c.args.capacity c.args.unit.now c.args.held.now c.prepare_passed.new.held c.args.statement.now c.requires.may c.prepare_passed.ensures.shows
    c.prepare_passed.result c.prepare_passed.ensures.prepared
