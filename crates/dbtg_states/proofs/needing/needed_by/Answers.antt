use Rattle.std.proofs.Common.{ℕ, sym, subst}
use Rattle.dbtg_schema.specs.Lists.{Lists}
use Rattle.dbtg_step.specs.Core.Whole.{state_now}
use Rattle.dbtg_states.specs.declared.needing.InHand.{InHand}
use Rattle.dbtg_states.specs.Inside.InHand.{AreInHand}
use Rattle.dbtg_states.proofs.needing.needed_by.Goals.{in-Take+in_ok-is_met-in-Take, in-Stale, in-Area}
use Rattle.dbtg_states.proofs.needing.needed_by.Goals as goal

pub take_copy-requires : goal.take_copy-requires
take_copy-requires c =
    let d = c.args.database.now in
    subst (λ (s : Lists). AreInHand s d.capacity (state_now d).database c.loop-need.hands) (sym c.requires.schema)
    (subst (λ (k : ℕ). AreInHand c.args.schema.now k (state_now d).database c.loop-need.hands) (sym c.requires.capacity) c.loop-need.invariant)

pub loop-need-preserved : goal.loop-need-preserved
loop-need-preserved c =
    let d = c.args.database.now in
    elim c.match-need.branch [
      | in-Take+in_ok-is_met-in-Take w ↦
          subst (λ (h : InHand). AreInHand c.args.schema.now c.args.capacity (state_now d).database h) (sym w.hands-is)
          (subst (λ (k : ℕ). AreInHand c.args.schema.now k (state_now d).database w.take_copy.new.hands) c.requires.capacity
          (subst (λ (s : Lists). AreInHand s d.capacity (state_now d).database w.take_copy.new.hands) c.requires.schema w.in_ok-is_met-in-Take.ensures))
      | in-Stale w ↦
          subst (λ (h : InHand). AreInHand c.args.schema.now c.args.capacity (state_now d).database h) (sym w.hands-is)
          (w.guess_owners-is_met.ensures c.args.capacity (state_now d).database c.loop-need.invariant)
      | in-Area w ↦ subst (λ (h : InHand). AreInHand c.args.schema.now c.args.capacity (state_now d).database h) (sym w.hands-is) c.loop-need.invariant
    ]
