use Rattle.std.proofs.Common.{◌+◌, arith, refl, Some}
use Rattle.dbtg_cells.specs.declared.name.CellName.TheVariants.{Ring}
use Rattle.dbtg_step.proofs.TheCore.RangePushes.{map_pushed_behind}
use Rattle.dbtg_step.proofs.opening_parts.add_owned_rings.Goals as goal

pub loop-lower-preserved : goal.loop-lower-preserved
loop-lower-preserved c =
    map_pushed_behind (λ n. Ring c.args.set (Some (c.args.owner, n))) 1 c.loop-lower.lower (c.loop-lower.lower + 1) (omega arith) _ c.args.names.now.items c.loop-lower.names.items c.add.new.items.items c.loop-lower.invariant c.in_ok-add.ensures refl
