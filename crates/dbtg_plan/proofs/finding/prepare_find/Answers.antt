use Rattle.std.proofs.Common.{◌∙◌, ap, subst, sym}
use Rattle.std.proofs.lemmas.Bool.{and_parts}
use Rattle.dbtg_unit.specs.declared.statement.Statement.TheVariants.{Find}
use Rattle.dbtg_unit.specs.Hands.Making.{CanFinish}
use Rattle.dbtg_unit.specs.Hands.Prepared.{Plan}
use Rattle.dbtg_unit.proofs.Public.{may_plan}
use Rattle.dbtg_plan.specs.Inside.Finding.{plan_of_found}
use Rattle.dbtg_plan.proofs.Find.FindPlans.{find_can_finish}
use Rattle.dbtg_plan.proofs.finding.prepare_find.Goals as goal

pub found_in-found-requires : goal.found_in-found-requires
found_in-found-requires c = record { fits = (and_parts _ _ c.requires.may.fits).0; within = c.requires.may.within }

pub returns : goal.returns
returns c =
    let schema = c.args.schema.now in
    let unit = c.args.unit.now in
    let hands = c.args.held.now in
    let suppress = c.args.suppress.now in
    let is = c.plan_of_found.ensures ∙ ap (plan_of_found hands suppress) c.found_in-found.ensures in
    subst (λ (plan : Plan). CanFinish schema c.args.capacity unit hands (Find suppress c.args.form.now) plan) (sym is)
    (find_can_finish schema c.args.capacity unit hands c.args.form.now suppress (may_plan c.requires.may) c.requires.passes)
