use Rattle.std.proofs.Common.{sym}
use Rattle.dbtg_cells.proofs.PlaceNumbers.{how_many}
use Rattle.dbtg_cells.proofs.numbering.cell_count.Goals as goal

pub returns-clause-count : goal.returns-clause-count
returns-clause-count c =
    rw (c.first_slot.ensures.count, c.types.ensures.types) (sym (how_many c.args.schema.now c.args.capacity))
