use Rattle.std.proofs.Common.{◌≡◌, ◌∙◌, sym, ap, subst, List}
use Rattle.std.specs.Prelude.{IfOk, Result}
use Rattle.dbtg_cells.specs.declared.key.DbKey.{DbKey}
use Rattle.dbtg_cells.specs.declared.key.Value.{Value}
use Rattle.dbtg_unit.specs.declared.statement.Statement.TheVariants.{Store}
use Rattle.dbtg_unit.specs.declared.statement.Suppress.{Suppress}
use Rattle.dbtg_unit.specs.declared.unit.Answer.{Answer}
use Rattle.dbtg_unit.specs.declared.unit.Cause.{Cause}
use Rattle.dbtg_unit.specs.Hands.InHand.{in_hand}
use Rattle.dbtg_unit.specs.Hands.Locality.{made_by, seen}
use Rattle.dbtg_unit.specs.Inside.PlanOf.{plan_of}
use Rattle.dbtg_plan.specs.Inside.Store.{plan_of_judged}
use Rattle.dbtg_plan.proofs.Store.StoreAtOnce.{judged_is_made, stored_can_make, stored_if_ok}
use Rattle.dbtg_plan.proofs.storing.make_store.Goals as goal

pub store-requires : goal.store-requires
store-requires c =
    let schema = c.args.schema.now in
    let unit = c.args.unit.now in
    let hands = c.args.held.now in
    let judged : Result DbKey Cause = c.in_ok-judged.judged in
    let is : (x : Suppress) → plan_of schema (in_hand hands) unit (Store c.args.rtype c.args.items.now x) ≡ plan_of_judged schema unit c.args.items.now x judged
    = λ x. subst (λ (items : List Value). plan_of schema (in_hand hands) unit (Store c.args.rtype items x) ≡ plan_of_judged schema unit items x judged) (c.as_slice.ensures ∙ c.get.ensures) (c.in_ok-judged.ensures x) in
    stored_can_make schema c.args.capacity unit hands c.args.rtype c.args.items.now c.args.suppress.now c.requires.may c.requires.passes judged is c.requires.agrees.0 c.requires.agrees.1 c.in-Ok.key c.in-Ok.is

pub returns-in-Ok-clause-made : goal.returns-in-Ok-clause-made
returns-in-Ok-clause-made c =
    let schema = c.args.schema.now in
    let unit = c.args.unit.now in
    let hands = c.args.held.now in
    let items = c.args.items.now in
    let suppress = c.args.suppress.now in
    let judged : Result DbKey Cause = c.in_ok-judged.judged in
    let is : (x : Suppress) → plan_of schema (in_hand hands) unit (Store c.args.rtype c.args.items.now x) ≡ plan_of_judged schema unit c.args.items.now x judged
    = λ x. subst (λ (items : List Value). plan_of schema (in_hand hands) unit (Store c.args.rtype items x) ≡ plan_of_judged schema unit items x judged) (c.as_slice.ensures ∙ c.get.ensures) (c.in_ok-judged.ensures x) in
    stored_if_ok schema c.args.capacity unit hands c.args.rtype items suppress c.requires.may c.requires.passes judged is c.store.result c.store.new.unit c.store.new.held
    (subst (λ (j : Result DbKey Cause). IfOk c.store.result (λ (answer : Answer). seen answer c.store.new.unit c.store.new.held ≡ made_by schema unit hands (plan_of_judged schema unit items suppress j))) (sym c.in-Ok.is) c.store.ensures.made)

pub returns-in-Err-clause-made : goal.returns-in-Err-clause-made
returns-in-Err-clause-made c =
    let schema = c.args.schema.now in
    let unit = c.args.unit.now in
    let hands = c.args.held.now in
    let items = c.args.items.now in
    let suppress = c.args.suppress.now in
    let judged : Result DbKey Cause = c.in_ok-judged.judged in
    let is : (x : Suppress) → plan_of schema (in_hand hands) unit (Store c.args.rtype c.args.items.now x) ≡ plan_of_judged schema unit c.args.items.now x judged
    = λ x. subst (λ (items : List Value). plan_of schema (in_hand hands) unit (Store c.args.rtype items x) ≡ plan_of_judged schema unit items x judged) (c.as_slice.ensures ∙ c.get.ensures) (c.in_ok-judged.ensures x) in
    judged_is_made schema c.args.capacity unit hands c.args.rtype items suppress c.requires.may c.requires.passes judged is (seen c.refusal.result unit hands)
    (ap (λ (a : Answer). seen a unit hands) c.refusal.ensures ∙ ap (λ (j : Result DbKey Cause). made_by schema unit hands (plan_of_judged schema unit items suppress j)) (sym c.in-Err.is))
