use Rattle.std.proofs.Common.{arith}
use Rattle.dbtg_step.specs.Core.Parts.{machine}
use Rattle.dbtg_step.proofs.TheCore.RunsShown.{arrives_at, goes_on_at}
use Rattle.dbtg_step.proofs.running.make_each_move.Goals as goal

pub loop-one-preserved : goal.loop-one-preserved
loop-one-preserved c =
    goes_on_at (machine c.args.core.now) (machine c.loop-one.core) (machine c.make_move.new.core) c.loop-one.results.items c.push.new.self.items c.args.moves.now c.loop-one.one-index _
    c.in_ok-make_move.field-0 (omega (arith, c.loop-one-test.true)) c.loop-one.invariant c.in_ok-make_move.ensures.core c.in_ok-make_move.ensures.result c.in_ok-push.ensures.items

pub returns-clause-core : goal.returns-clause-core
returns-clause-core c =
    (arrives_at (machine c.args.core.now) (machine c.loop-one.core) c.loop-one.results.items c.args.moves.now c.loop-one.one-index (omega (arith, c.loop-one-test.false)) c.loop-one.invariant).0

pub returns-clause-results : goal.returns-clause-results
returns-clause-results c =
    (arrives_at (machine c.args.core.now) (machine c.loop-one.core) c.loop-one.results.items c.args.moves.now c.loop-one.one-index (omega (arith, c.loop-one-test.false)) c.loop-one.invariant).1
