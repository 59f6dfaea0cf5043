use Rattle.std.proofs.Common.{sym, subst, ◌∙◌}
use Rattle.dbtg_unit.specs.declared.unit.Answer.{Answer}
use Rattle.dbtg_unit.specs.Hands.Locality.{IsMadeOnEach, seen}
use Rattle.dbtg_plan.proofs.Plans.MadeAtOnce.{refusal_is_made}
use Rattle.dbtg_plan.proofs.making.make_at_once.Goals as goal

pub returns-in-Some-clause-made : goal.returns-in-Some-clause-made
returns-in-Some-clause-made c =
    let schema = c.args.schema.now in
    let unit = c.args.unit.now in
    let hands = c.args.held.now in
    let statement = c.args.statement.now in
    subst (λ (a : Answer). IsMadeOnEach schema c.args.capacity unit hands statement (seen a unit hands)) (sym c.refusal.ensures)
    (refusal_is_made schema unit hands c.args.capacity statement c.in-Some.cause c.requires.may (sym c.refused_at_once.ensures ∙ c.in-Some.is))
