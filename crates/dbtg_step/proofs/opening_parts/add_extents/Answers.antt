use Rattle.std.proofs.Common.{arith, refl}
use Rattle.dbtg_cells.specs.declared.name.CellName.TheVariants.{Extent}
use Rattle.dbtg_step.proofs.TheCore.RangePushes.{map_pushed_behind}
use Rattle.dbtg_step.proofs.opening_parts.add_extents.Goals as goal

pub loop-rtype-preserved : goal.loop-rtype-preserved
loop-rtype-preserved c =
    map_pushed_behind Extent 0 c.loop-rtype.rtype c.loop-rtype.rtype (omega arith) _ c.args.names.now.items c.loop-rtype.names.items c.add.new.items.items c.loop-rtype.invariant (rw c.new.ensures at c.in_ok-add.ensures) refl
