use Rattle.std.proofs.Common.{◌+◌, arith}
use Rattle.dbtg_unit.specs.Database.State.Units.{opening_unit}
use Rattle.dbtg_step.proofs.TheCore.RangePushes.{map_pushed}
use Rattle.dbtg_step.proofs.whole.opening_units.Goals as goal

pub loop-before-preserved : goal.loop-before-preserved
loop-before-preserved c =
    map_pushed (opening_unit c.args.schema.now) 1 c.loop-before.before (c.loop-before.before + 1) (omega arith) c.in_ok-opening_unit.field-0 c.loop-before.units.items c.push.new.self.items c.loop-before.invariant c.in_ok-push.ensures.items c.in_ok-opening_unit.ensures
