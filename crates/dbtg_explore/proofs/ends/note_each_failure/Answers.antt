use Rattle.std.proofs.Common.{◌≡◌, ◌+◌, ◌≤◌, ℕ, subst, length, arith}
use Rattle.dbtg_explore.specs.Inside.Failures.{Take}
use Rattle.dbtg_explore.specs.Inside.Standing.{fails_in}
use Rattle.dbtg_explore.proofs.Noting.{FailsTo, fails_all, fails_at, fails_first, fails_next}
use Rattle.dbtg_explore.proofs.Said.{fails_is}
use Rattle.dbtg_explore.proofs.ends.note_each_failure.Goals as goal

pub loop-before-init : goal.loop-before-init
loop-before-init c = λ history at. fails_first c.args.meeting.now history c.args.failures.now.items

pub loop-before-preserved : goal.loop-before-preserved
loop-before-preserved c = λ history at.
    let m = c.args.meeting.now in
    let kept = c.args.numbers.now in
    let n = c.loop-before.before in
    let within : n + 1 ≤ length m.programs = omega (arith, c.units-before-end.ensures, c.loop-before-test.true) in
    let is = fails_is m kept history c.args.state at (n + 1) (omega arith) within in
    fails_next m history n c.args.failures.now.items c.loop-before.failures.items c.note_failure.new.failures.items (c.loop-before.invariant history at)
    (fails_at m history (n + 1) (fails_in kept c.args.state (n + 1)) c.loop-before.failures.items c.note_failure.new.failures.items is c.in_ok-note_failure.ensures)

pub returns : goal.returns
returns c = λ history at.
    let m = c.args.meeting.now in
    let all : c.loop-before.before ≡ length m.programs = omega (arith, c.units-before-end.ensures, c.loop-before-test.false) in
    fails_all m history c.args.failures.now.items c.loop-before.failures.items
    (subst (λ (n : ℕ). Take (FailsTo m history n) c.args.failures.now.items c.loop-before.failures.items) all (c.loop-before.invariant history at))
