use Rattle.std.proofs.Common.{◌≡◌, ◌∙◌, refl, sym, ap, subst, None, Some}
use Rattle.dbtg_schema.specs.Lookups.{first_cause}
use Rattle.dbtg_unit.specs.declared.statement.Statement.TheVariants.{Insert}
use Rattle.dbtg_unit.specs.Database.Statements.Checks.{insert_checks}
use Rattle.dbtg_unit.specs.Hands.InHand.{in_hand}
use Rattle.dbtg_unit.specs.Hands.Locality.{IsMadeOnEach, made_by}
use Rattle.dbtg_unit.specs.Hands.Making.{CanMake}
use Rattle.dbtg_unit.specs.Hands.PlanOf.{inserting}
use Rattle.dbtg_unit.specs.Hands.Prepared.{Plan}
use Rattle.dbtg_unit.specs.Inside.PlanOf.{plan_of}
use Rattle.dbtg_unit.proofs.Public.{agrees_same, may_plan, plan_makes, prepared_makes}
use Rattle.dbtg_plan.specs.Inside.Joining.{inserting_with}
use Rattle.dbtg_plan.proofs.Connect.InsertIsEffect.{insert_can_finish, insert_is_prepared}
use Rattle.dbtg_plan.proofs.Plans.MadeAtOnce.{planned_refused, refused_is_made}
use Rattle.dbtg_plan.proofs.inserting.make_insert.Goals as goal

pub insert_record-requires-clause-can : goal.insert_record-requires-clause-can
insert_record-requires-clause-can c =
    let schema = c.args.schema.now in
    let unit = c.args.unit.now in
    let hands = c.args.held.now in
    let new = c.make_room.new.held in
    let s = c.args.set in
    let k = c.in-Some.key in
    let same = c.in_ok-make_room.ensures.same in
    let current : unit.currency.run_unit ≡ Some k = cc in
    let free : first_cause (insert_checks schema (in_hand hands) unit s k) ≡ None = sym c.in_default-refusal.ensures in
    let can = insert_can_finish schema c.args.capacity unit hands new s c.requires.may c.requires.passes same k current free c.in_ok-make_room.ensures.room in
    let plan : inserting_with schema unit s k c.in_ok-sort_key.sort_key c.next_version-version.result ≡ inserting schema (in_hand hands) unit s k = λ i. inserting_with schema unit s k (c.in_ok-sort_key.ensures i) (c.next_version-version.ensures i) in
    subst (λ (p : Plan). CanMake p.cells new.cells) (sym plan) (can.can_make c.requires.agrees.0 (agrees_same schema c.args.capacity c.requires.agrees.0 unit hands new same c.requires.agrees.1))

pub returns-in-Some-refusal-clause-made : goal.returns-in-Some-refusal-clause-made
returns-in-Some-refusal-clause-made c =
    let schema = c.args.schema.now in
    let unit = c.args.unit.now in
    let hands = c.args.held.now in
    let s = c.args.set in
    let k = c.in-Some.key in
    let plan = plan_of schema (in_hand hands) unit (Insert s) in
    let current : unit.currency.run_unit ≡ Some k = cc in
    refused_is_made schema unit hands c.args.capacity (Insert s) plan c.in-Some-refusal.cause c.refusal-in-Some-refusal.result
    (prepared_makes schema c.args.capacity unit (Insert s) plan hands hands c.requires.may (record { areas = refl; cells = refl; guesses = refl }) (insert_is_prepared schema c.args.capacity unit hands s (may_plan c.requires.may) c.requires.passes))
    (planned_refused (insert_checks schema (in_hand hands) unit s) (inserting schema (in_hand hands) unit s) unit.currency.run_unit k c.in-Some-refusal.cause current (sym c.in-Some-refusal.ensures))
    c.refusal-in-Some-refusal.ensures

pub returns-clause-made : goal.returns-clause-made
returns-clause-made c =
    let schema = c.args.schema.now in
    let unit = c.args.unit.now in
    let hands = c.args.held.now in
    let new = c.make_room.new.held in
    let s = c.args.set in
    let k = c.in-Some.key in
    let same = c.in_ok-make_room.ensures.same in
    let current : unit.currency.run_unit ≡ Some k = cc in
    let free : first_cause (insert_checks schema (in_hand hands) unit s k) ≡ None = sym c.in_default-refusal.ensures in
    let can = insert_can_finish schema c.args.capacity unit hands new s c.requires.may c.requires.passes same k current free c.in_ok-make_room.ensures.room in
    let plan : inserting_with schema unit s k c.in_ok-sort_key.sort_key c.next_version-version.result ≡ inserting schema (in_hand hands) unit s k = λ i. inserting_with schema unit s k (c.in_ok-sort_key.ensures i) (c.next_version-version.ensures i) in
    subst (IsMadeOnEach schema c.args.capacity unit hands (Insert s)) (ap (made_by schema unit new) (sym plan) ∙ sym c.insert_record.ensures)
    (plan_makes schema c.args.capacity unit (Insert s) (inserting schema (in_hand hands) unit s k) hands new c.requires.may same can)
