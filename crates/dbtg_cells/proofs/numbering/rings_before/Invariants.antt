use Rattle.std.proofs.Common.{◌≡◌, ◌≤◌, ◌*◌, length}
use Rattle.std.specs.List.{flat_map, range_with_len}
use Rattle.dbtg_cells.specs.CellNumbers.{rings_of}
use Rattle.dbtg_cells.proofs.numbering.rings_before.Given as goal

abbrev pub invariant-loop-earlier : goal.invariant-loop-earlier
invariant-loop-earlier l = record { is : l.count ≡ length (flat_map (rings_of l.schema l.capacity) (range_with_len 0 l.earlier)); limit : l.count ≤ 65536 * l.earlier }
