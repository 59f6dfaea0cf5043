use Rattle.std.proofs.Common.{arith, rules}
use Rattle.dbtg_cells.specs.CellNumbers.{rings_of}
use Rattle.dbtg_cells.proofs.PlaceNumbers.{parts_more}
use Rattle.dbtg_cells.proofs.numbering.rings_before.Goals as goal

pub loop-earlier-preserved : goal.loop-earlier-preserved
loop-earlier-preserved c =
    let more = parts_more (rings_of c.args.schema.now c.args.capacity) 0 c.loop-earlier.earlier in
    rw (more, c.ring_count-count.ensures.count, c.loop-earlier.invariant.is) (record { is = search rules; limit = omega (arith, c.loop-earlier.invariant.limit, c.ring_count-count.ensures.limit) })
