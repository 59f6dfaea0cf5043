use Rattle.dbtg_going.proofs.Turning.{not_turned}
use Rattle.dbtg_going.proofs.Together.{unit_more}
use Rattle.dbtg_going.proofs.going.Programs.one_by_one.Goals as goal

pub loop-before-init : goal.loop-before-init
loop-before-init c = not_turned c.args.self.now.schema.now c.args.self.now.list.now c.args.database.now c.args.members.now c.requires

pub loop-before-preserved : goal.loop-before-preserved
loop-before-preserved c =
    unit_more c.args.self.now.schema.now c.args.self.now.list.now c.args.database.now c.loop-before.database c.to_the_end.new.database c.loop-before.before c.loop-before.members c.to_the_end.new.members
    c.loop-before.invariant c.in_ok-to_the_end.ensures
