use Rattle.std.proofs.Common.{arith}
use Rattle.dbtg_cells.specs.CellNumbers.{rings_of}
use Rattle.dbtg_step.proofs.TheCore.RangePushes.{flat_pushed}
use Rattle.dbtg_step.proofs.opening_parts.add_rings.Goals as goal

pub loop-set-preserved : goal.loop-set-preserved
loop-set-preserved c =
    flat_pushed (rings_of c.args.schema.now c.args.capacity) 0 c.loop-set.set c.loop-set.set (omega arith) c.args.names.now.items c.loop-set.names.items c.add_rings_of.new.names.items c.loop-set.invariant (rw c.new.ensures at c.in_ok-add_rings_of.ensures)
