use Rattle.std.proofs.Common.{◌≡◌, ℕ, ◌<◌, ◌+◌, length, get_or}
use Rattle.std.specs.List.{flat_map, range_with_len}
use Rattle.dbtg_cells.specs.CellNumbers.{rings_of}
use Rattle.dbtg_cells.proofs.numbering.ring_starts.Given as goal

abbrev pub invariant-loop-set : goal.invariant-loop-set
invariant-loop-set l = record {
  long : length l.firsts ≡ 16;
  are : (s : ℕ) → s < l.set → get_or l.firsts s 0 ≡ length l.schema.areas + length l.schema.types + length (flat_map (rings_of l.schema l.capacity) (range_with_len 0 s));
}
