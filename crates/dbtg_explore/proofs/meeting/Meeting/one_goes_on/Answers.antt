use Rattle.dbtg_explore.specs.Inside.Standing.{goes_on_in}
use Rattle.dbtg_explore.proofs.Placed.{none_more, one_there}
use Rattle.dbtg_explore.proofs.meeting.Meeting.one_goes_on.Goals as goal

pub returns-then-goes_on : goal.returns-then-goes_on
returns-then-goes_on c = one_there (goes_on_in c.args.self.now c.args.numbers.now c.args.state) c.args.units c.loop-before.before c.loop-before-test.true c.if-goes_on.ensures

pub loop-before-preserved : goal.loop-before-preserved
loop-before-preserved c = none_more (goes_on_in c.args.self.now c.args.numbers.now c.args.state) c.loop-before.before c.loop-before.invariant c.if-goes_on.ensures
