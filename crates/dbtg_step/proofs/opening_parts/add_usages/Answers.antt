use Rattle.std.proofs.Common.{arith, refl}
use Rattle.dbtg_cells.specs.declared.name.CellName.TheVariants.{Usage}
use Rattle.dbtg_step.proofs.TheCore.RangePushes.{map_pushed_behind}
use Rattle.dbtg_step.proofs.opening_parts.add_usages.Goals as goal

pub loop-area-preserved : goal.loop-area-preserved
loop-area-preserved c =
    map_pushed_behind Usage 0 c.loop-area.area c.loop-area.area (omega arith) _ c.args.names.now.items c.loop-area.names.items c.add.new.items.items c.loop-area.invariant (rw c.new.ensures at c.in_ok-add.ensures) refl
