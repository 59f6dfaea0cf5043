use Rattle.std.proofs.Common.{refl, ap, length}
use Rattle.dbtg_cells.proofs.PlaceNumbers.{laid_out}
use Rattle.dbtg_cells.proofs.numbering.Layout.of.Goals as goal

pub returns : goal.returns
returns c = laid_out c.args.schema.now c.args.capacity _ (ap length c.areas.ensures.areas) refl c.first_slot.ensures.count c.ring_starts.ensures
