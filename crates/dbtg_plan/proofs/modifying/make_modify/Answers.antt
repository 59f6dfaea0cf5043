use Rattle.std.proofs.Common.{◌≡◌, ◌∙◌, sym, subst, List, None, Some}
use Rattle.std.proofs.lemmas.Result.{IfOk-weaker}
use Rattle.dbtg_schema.specs.Lookups.{first_cause}
use Rattle.dbtg_cells.specs.declared.key.Value.{Value}
use Rattle.dbtg_unit.specs.declared.statement.Statement.TheVariants.{Modify}
use Rattle.dbtg_unit.specs.Database.Statements.Checks.{modify_checks}
use Rattle.dbtg_unit.specs.Hands.InHand.{in_hand}
use Rattle.dbtg_unit.specs.Hands.Making.{CanMake}
use Rattle.dbtg_unit.specs.Hands.PlanOf.{modify_edits, modifying}
use Rattle.dbtg_unit.specs.Hands.Prepared.{Plan}
use Rattle.dbtg_unit.specs.Inside.PlanOf.{plan_of}
use Rattle.dbtg_plan.proofs.Modify.ModifyReady.{modify_finishes}
use Rattle.dbtg_plan.proofs.Plans.MadeAtOnce.{done_is_made, plan_is_made, planned_done, planned_refused, refused_is_made}
use Rattle.dbtg_plan.proofs.modifying.make_modify.Goals as goal

pub modify_record-requires-clause-can : goal.modify_record-requires-clause-can
modify_record-requires-clause-can c =
    let schema = c.args.schema.now in
    let unit = c.args.unit.now in
    let hands = c.args.held.now in
    let changes = c.args.changes.now in
    let k = c.in-Some.key in
    let current : unit.currency.run_unit ≡ Some k = cc in
    let free : first_cause (modify_checks schema (in_hand hands) unit changes k) ≡ None = sym c.in_ok-cause.ensures ∙ c.in-None.is in
    let done = planned_done (modify_checks schema (in_hand hands) unit changes) (modifying schema (in_hand hands) unit changes) unit.currency.run_unit k current free in
    let can = (modify_finishes schema c.args.capacity unit hands c.args.rtype changes c.requires.passes c.requires.may).can_make c.requires.agrees.0 c.requires.agrees.1 in
    subst (λ (items : List Value). CanMake (modify_edits schema (in_hand hands) unit changes k items) hands.cells) (sym c.in_ok-items.ensures) (subst (λ (p : Plan). CanMake p.cells hands.cells) done can)

pub returns-in-Some-2-clause-made : goal.returns-in-Some-2-clause-made
returns-in-Some-2-clause-made c =
    let schema = c.args.schema.now in
    let unit = c.args.unit.now in
    let hands = c.args.held.now in
    let changes = c.args.changes.now in
    let k = c.in-Some.key in
    let x = Modify c.args.rtype changes in
    let plan = plan_of schema (in_hand hands) unit x in
    let current : unit.currency.run_unit ≡ Some k = cc in
    let refused : first_cause (modify_checks schema (in_hand hands) unit changes k) ≡ Some c.in-Some-2.cause = sym c.in_ok-cause.ensures ∙ c.in-Some-2.is in
    refused_is_made schema unit hands c.args.capacity x plan c.in-Some-2.cause c.refusal-in-Some-2.result
    (plan_is_made schema unit hands c.args.capacity x plan c.requires.may (modify_finishes schema c.args.capacity unit hands c.args.rtype changes c.requires.passes c.requires.may))
    (planned_refused (modify_checks schema (in_hand hands) unit changes) (modifying schema (in_hand hands) unit changes) unit.currency.run_unit k c.in-Some-2.cause current refused)
    c.refusal-in-Some-2.ensures

pub returns-in-None-clause-made : goal.returns-in-None-clause-made
returns-in-None-clause-made c =
    let schema = c.args.schema.now in
    let unit = c.args.unit.now in
    let hands = c.args.held.now in
    let changes = c.args.changes.now in
    let k = c.in-Some.key in
    let x = Modify c.args.rtype changes in
    let plan = plan_of schema (in_hand hands) unit x in
    let current : unit.currency.run_unit ≡ Some k = cc in
    let free : first_cause (modify_checks schema (in_hand hands) unit changes k) ≡ None = sym c.in_ok-cause.ensures ∙ c.in-None.is in
    IfOk-weaker c.modify_record.result _ _
    (λ answer is. done_is_made schema unit hands c.args.capacity x plan (modifying schema (in_hand hands) unit changes k) _
    (plan_is_made schema unit hands c.args.capacity x plan c.requires.may (modify_finishes schema c.args.capacity unit hands c.args.rtype changes c.requires.passes c.requires.may))
    (planned_done (modify_checks schema (in_hand hands) unit changes) (modifying schema (in_hand hands) unit changes) unit.currency.run_unit k current free) is)
    c.modify_record.ensures.made
