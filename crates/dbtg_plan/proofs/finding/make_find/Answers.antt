use Rattle.std.proofs.Common.{◌∙◌, ap, subst, sym}
use Rattle.std.proofs.lemmas.Bool.{and_parts}
use Rattle.dbtg_unit.specs.declared.statement.Statement.TheVariants.{Find}
use Rattle.dbtg_unit.specs.Hands.Locality.{IsMadeOnEach, made_by}
use Rattle.dbtg_plan.specs.Inside.Finding.{plan_of_found}
use Rattle.dbtg_plan.proofs.Plans.MadeAtOnce.{find_is_made}
use Rattle.dbtg_plan.proofs.finding.make_find.Goals as goal

pub found_in-found-requires : goal.found_in-found-requires
found_in-found-requires c = record { fits = (and_parts _ _ c.requires.may.fits).0; within = c.requires.may.within }

pub returns : goal.returns
returns c =
    let schema = c.args.schema.now in
    let unit = c.args.unit.now in
    let hands = c.args.held.now in
    let suppress = c.args.suppress.now in
    let is = c.see_found.ensures ∙ ap (λ f. made_by schema unit hands (plan_of_found hands suppress f)) c.found_in-found.ensures in
    subst (IsMadeOnEach schema c.args.capacity unit hands (Find suppress c.args.form.now)) (sym is)
    (find_is_made schema unit hands c.args.capacity c.args.form.now suppress c.requires.may c.requires.passes)
