use Rattle.std.proofs.Common.{◌≡◌, ◌+◌, sym, ◌∙◌, ap, ℕ, Bool, List, drop}
use Rattle.std.specs.Prelude.{is_some}
use Rattle.std.specs.List.{flat_map}
use Rattle.dbtg_schema.specs.Lookups.{first_cause}
use Rattle.dbtg_unit.specs.declared.unit.Cause.{Cause}
use Rattle.dbtg_unit.specs.Database.State.Base.{key_item}
use Rattle.dbtg_unit.specs.Database.Statements.Checks.{place_checks}
use Rattle.dbtg_unit.specs.Hands.InHand.{in_hand}
use Rattle.dbtg_plan.proofs.Store.StoreSteps.{cause_behind, cause_here, left_next}
use Rattle.dbtg_plan.proofs.storing.refusal_in_any_set.Goals as goal

pub returns-then-is_some : goal.returns-then-is_some
returns-then-is_some c =
    let f : ℕ → List (Bool × Cause) = λ s. place_checks c.args.schema.now (in_hand c.args.held.now) c.args.unit.now s (key_item c.args.schema.now s c.args.rtype c.args.items.now) in
    let sets = c.automatic_sets-set-items.result.now in
    let i = c.loop-set.set-index in
    let is : c.place_refusal-cause.result ≡ first_cause (f c.set-item.result) =
    c.place_refusal-cause.ensures ∙ ap (λ v. first_cause (place_checks c.args.schema.now (in_hand c.args.held.now) c.args.unit.now c.set-item.result v)) c.in_ok-sort_key.ensures in
    is
    ∙ sym (cause_here (f c.set-item.result) (flat_map f (drop (i + 1) sets)) (ap is_some (sym is) ∙ sym c.is_some.ensures ∙ c.if-is_some.true))
    ∙ ap (λ (ss : List ℕ). first_cause (flat_map f ss)) (sym (left_next sets i c.set-item.result c.loop-set-test.true c.set-item.is))
    ∙ c.loop-set.invariant

pub loop-set-preserved : goal.loop-set-preserved
loop-set-preserved c =
    let f : ℕ → List (Bool × Cause) = λ s. place_checks c.args.schema.now (in_hand c.args.held.now) c.args.unit.now s (key_item c.args.schema.now s c.args.rtype c.args.items.now) in
    let sets = c.automatic_sets-set-items.result.now in
    let i = c.loop-set.set-index in
    let is : c.place_refusal-cause.result ≡ first_cause (f c.set-item.result) =
    c.place_refusal-cause.ensures ∙ ap (λ v. first_cause (place_checks c.args.schema.now (in_hand c.args.held.now) c.args.unit.now c.set-item.result v)) c.in_ok-sort_key.ensures in
    sym (cause_behind (f c.set-item.result) (flat_map f (drop (i + 1) sets)) (ap is_some (sym is) ∙ sym c.is_some.ensures ∙ c.if-is_some.false))
    ∙ ap (λ (ss : List ℕ). first_cause (flat_map f ss)) (sym (left_next sets i c.set-item.result c.loop-set-test.true c.set-item.is))
    ∙ c.loop-set.invariant
