use Rattle.std.proofs.Common.{◌≡◌, ◌++◌}
use Rattle.std.specs.List.{flat_map, range_with_len}
use Rattle.dbtg_cells.specs.CellNumbers.{rings_of}
use Rattle.dbtg_step.proofs.opening_parts.add_rings.Given as goal

abbrev pub invariant-loop-set : goal.invariant-loop-set
invariant-loop-set l = l.names.items ≡ l.initial.names.items ++ flat_map (rings_of l.schema l.capacity) (range_with_len 0 l.set)
