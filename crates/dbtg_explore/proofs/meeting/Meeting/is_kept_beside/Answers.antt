use Rattle.std.proofs.Common.{length, arith}
use Rattle.dbtg_explore.specs.Inside.Standing.{keeps_beside}
use Rattle.dbtg_explore.proofs.Placed.{none_more, one_there}
use Rattle.dbtg_explore.proofs.meeting.Meeting.is_kept_beside.Goals as goal

pub returns-then-keeps_beside : goal.returns-then-keeps_beside
returns-then-keeps_beside c =
    one_there (keeps_beside c.args.numbers.now c.args.state c.args.unit) (length c.args.self.now.programs) c.loop-before.before (omega (arith, c.units-before-end.ensures, c.loop-before-test.true)) c.if-keeps_beside.ensures

pub loop-before-preserved : goal.loop-before-preserved
loop-before-preserved c = none_more (keeps_beside c.args.numbers.now c.args.state c.args.unit) c.loop-before.before c.loop-before.invariant c.if-keeps_beside.ensures
