use Rattle.std.proofs.Common.{◌≡◌, sym, ◌∙◌, ap, subst, Option, Some, None}
use Rattle.std.proofs.lemmas.Result.{IfOk-weaker}
use Rattle.dbtg_schema.specs.Lookups.{first_cause}
use Rattle.dbtg_cells.specs.declared.key.DbKey.{DbKey}
use Rattle.dbtg_unit.specs.Hands.InHand.{in_hand}
use Rattle.dbtg_unit.specs.Database.Statements.Checks.{about, insert_checks}
use Rattle.dbtg_unit.specs.declared.statement.Statement.TheVariants.{Insert}
use Rattle.dbtg_unit.specs.declared.unit.Cause.{Cause}
use Rattle.dbtg_unit.specs.Hands.Making.{CanFinish}
use Rattle.dbtg_unit.specs.Hands.Prepared.{refusal}
use Rattle.dbtg_unit.specs.Inside.Prepared.{unless_refusal}
use Rattle.dbtg_unit.specs.Inside.PlanOf.{plan_of}
use Rattle.dbtg_unit.specs.Hands.PlanOf.{planned_on_current, inserting}
use Rattle.dbtg_plan.specs.Inside.Joining.{inserting_with}
use Rattle.dbtg_plan.proofs.Connect.InsertIsEffect.{insert_can_finish, refused_insert_can_finish}
use Rattle.dbtg_plan.proofs.inserting.prepare_insert.Goals as goal

pub returns-in-Some-refusal-clause-prepared : goal.returns-in-Some-refusal-clause-prepared
returns-in-Some-refusal-clause-prepared c =
    let schema = c.args.schema.now in
    let unit = c.args.unit.now in
    let hands = c.args.held.now in
    let current : unit.currency.run_unit ≡ Some c.in-Some.key = cc in
    let is : plan_of schema (in_hand hands) unit (Insert c.args.set) ≡ refusal c.in-Some-refusal.cause =
    ap (λ (r : Option DbKey). unless_refusal (first_cause (about r (insert_checks schema (in_hand hands) unit c.args.set))) (planned_on_current r (inserting schema (in_hand hands) unit c.args.set))) current
    ∙ ap (λ (x : Option Cause). unless_refusal x (inserting schema (in_hand hands) unit c.args.set c.in-Some.key)) (sym c.in-Some-refusal.ensures) in
    subst (CanFinish schema c.args.capacity unit hands (Insert c.args.set)) (sym c.refused-in-Some-refusal.ensures)
    (refused_insert_can_finish schema c.args.capacity unit hands c.args.set c.requires.may c.requires.passes c.in-Some-refusal.cause is)

pub returns-clause-prepared : goal.returns-clause-prepared
returns-clause-prepared c =
    let schema = c.args.schema.now in
    let unit = c.args.unit.now in
    let hands = c.args.held.now in
    let s = c.args.set in
    let k = c.in-Some.key in
    let current : unit.currency.run_unit ≡ Some k = cc in
    let free : first_cause (insert_checks schema (in_hand hands) unit s k) ≡ None = sym c.in_default-refusal.ensures in
    let can = insert_can_finish schema c.args.capacity unit hands c.make_room.new.held s c.requires.may c.requires.passes c.in_ok-make_room.ensures.same k current free c.in_ok-make_room.ensures.room in
    let plan : inserting_with schema unit s k c.in_ok-sort_key.sort_key c.next_version-version.result ≡ inserting schema (in_hand hands) unit s k = λ i. inserting_with schema unit s k (c.in_ok-sort_key.ensures i) (c.next_version-version.ensures i) in
    let finishes = subst (CanFinish schema c.args.capacity unit c.make_room.new.held (Insert s)) (sym plan) can in
    IfOk-weaker c.inserted.result _ _ (λ p is. subst (CanFinish schema c.args.capacity unit c.make_room.new.held (Insert s)) (sym is) finishes) c.inserted.ensures
