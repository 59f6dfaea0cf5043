use Rattle.std.proofs.Common.{arith}
use Rattle.dbtg_cells.specs.CellNumbers.{slots_of}
use Rattle.dbtg_step.proofs.TheCore.RangePushes.{flat_pushed}
use Rattle.dbtg_step.proofs.opening_parts.add_slots.Goals as goal

pub loop-rtype-preserved : goal.loop-rtype-preserved
loop-rtype-preserved c =
    flat_pushed (slots_of c.args.capacity) 0 c.loop-rtype.rtype c.loop-rtype.rtype (omega arith) c.args.names.now.items c.loop-rtype.names.items c.add_slots_of.new.names.items c.loop-rtype.invariant (rw c.new.ensures at c.in_ok-add_slots_of.ensures)
