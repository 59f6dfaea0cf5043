use Rattle.std.proofs.Common.{◌≡◌, ◌∙◌, sym, subst, None, Some}
use Rattle.dbtg_schema.specs.Lookups.{first_cause}
use Rattle.dbtg_unit.specs.declared.statement.Statement.TheVariants.{Remove}
use Rattle.dbtg_unit.specs.Database.Statements.Checks.{remove_checks}
use Rattle.dbtg_unit.specs.Hands.InHand.{in_hand}
use Rattle.dbtg_unit.specs.Hands.Making.{CanMake}
use Rattle.dbtg_unit.specs.Hands.PlanOf.{removing}
use Rattle.dbtg_unit.specs.Hands.Prepared.{Plan}
use Rattle.dbtg_unit.specs.Inside.PlanOf.{plan_of}
use Rattle.dbtg_plan.proofs.Connect.RemoveIsEffect.{remove_finishes}
use Rattle.dbtg_plan.proofs.Plans.MadeAtOnce.{done_is_made, plan_is_made, planned_done, planned_refused, refused_is_made}
use Rattle.dbtg_plan.proofs.removing.make_remove.Goals as goal

pub remove_record-requires-clause-can : goal.remove_record-requires-clause-can
remove_record-requires-clause-can c =
    let schema = c.args.schema.now in
    let unit = c.args.unit.now in
    let hands = c.args.held.now in
    let s = c.args.set in
    let k = c.in-Some.key in
    let current : unit.currency.run_unit ≡ Some k = cc in
    let free : first_cause (remove_checks (in_hand hands) unit s k) ≡ None = sym c.refusal-2.ensures ∙ c.in-None.is in
    subst (λ (p : Plan). CanMake p.cells hands.cells) (planned_done (remove_checks (in_hand hands) unit s) (removing (in_hand hands) s) unit.currency.run_unit k current free)
    ((remove_finishes schema c.args.capacity unit hands s c.requires.passes c.requires.may).can_make c.requires.agrees.0 c.requires.agrees.1)

pub returns-in-Some-refusal : goal.returns-in-Some-refusal
returns-in-Some-refusal c =
    let schema = c.args.schema.now in
    let unit = c.args.unit.now in
    let hands = c.args.held.now in
    let s = c.args.set in
    let k = c.in-Some.key in
    let plan = plan_of schema (in_hand hands) unit (Remove s) in
    let current : unit.currency.run_unit ≡ Some k = cc in
    refused_is_made schema unit hands c.args.capacity (Remove s) plan c.in-Some-refusal.cause c.refusal-in-Some-refusal.result
    (plan_is_made schema unit hands c.args.capacity (Remove s) plan c.requires.may (remove_finishes schema c.args.capacity unit hands s c.requires.passes c.requires.may))
    (planned_refused (remove_checks (in_hand hands) unit s) (removing (in_hand hands) s) unit.currency.run_unit k c.in-Some-refusal.cause current (sym c.in-Some-refusal.ensures))
    c.refusal-in-Some-refusal.ensures

pub returns-in-None : goal.returns-in-None
returns-in-None c =
    let schema = c.args.schema.now in
    let unit = c.args.unit.now in
    let hands = c.args.held.now in
    let s = c.args.set in
    let k = c.in-Some.key in
    let plan = plan_of schema (in_hand hands) unit (Remove s) in
    let current : unit.currency.run_unit ≡ Some k = cc in
    done_is_made schema unit hands c.args.capacity (Remove s) plan (removing (in_hand hands) s k) _
    (plan_is_made schema unit hands c.args.capacity (Remove s) plan c.requires.may (remove_finishes schema c.args.capacity unit hands s c.requires.passes c.requires.may))
    (planned_done (remove_checks (in_hand hands) unit s) (removing (in_hand hands) s) unit.currency.run_unit k current (sym c.refusal-2.ensures ∙ c.in-None.is)) (c.remove_record.ensures schema)
