use Rattle.std.proofs.Common.{sym, ◌∙◌, ap, ℕ, Bool}
use Rattle.std.specs.Prelude.{is_some}
use Rattle.dbtg_schema.specs.Lookups.{first_cause}
use Rattle.dbtg_unit.specs.Database.State.Base.{key_item}
use Rattle.dbtg_unit.specs.Database.Statements.Checks.{place_checks}
use Rattle.dbtg_refusal.specs.Inside.Imaged.{imaged}
use Rattle.dbtg_refusal.proofs.FirstElement.{find_at, find_past}
use Rattle.dbtg_refusal.proofs.placing.refusing_set.Goals as goal

pub returns-then-is_some : goal.returns-then-is_some
returns-then-is_some c =
    let p : ℕ → Bool = λ s. is_some (first_cause (place_checks c.args.schema.now (imaged c.args.schema.now c.args.image.now) c.args.unit.now s (key_item c.args.schema.now s c.args.items.now.rtype c.args.items.now.values.now))) in
    sym (find_at p c.automatic_sets-set-items.result.now c.loop-set.set-index c.set-item.result c.loop-set-test.true c.set-item.is (ap is_some (sym c.place_refusal.ensures) ∙ sym c.is_some.ensures ∙ c.if-is_some.true))
    ∙ c.loop-set.invariant

pub loop-set-preserved : goal.loop-set-preserved
loop-set-preserved c =
    let p : ℕ → Bool = λ s. is_some (first_cause (place_checks c.args.schema.now (imaged c.args.schema.now c.args.image.now) c.args.unit.now s (key_item c.args.schema.now s c.args.items.now.rtype c.args.items.now.values.now))) in
    find_past p c.automatic_sets-set-items.result.now c.loop-set.set-index c.set-item.result c.loop-set-test.true c.set-item.is (ap is_some (sym c.place_refusal.ensures) ∙ sym c.is_some.ensures ∙ c.if-is_some.false)
    ∙ c.loop-set.invariant
