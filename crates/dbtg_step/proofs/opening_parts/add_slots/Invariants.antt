use Rattle.std.proofs.Common.{◌≡◌, ◌++◌}
use Rattle.std.specs.List.{flat_map, range_with_len}
use Rattle.dbtg_cells.specs.CellNumbers.{slots_of}
use Rattle.dbtg_step.proofs.opening_parts.add_slots.Given as goal

abbrev pub invariant-loop-rtype : goal.invariant-loop-rtype
invariant-loop-rtype l = l.names.items ≡ l.initial.names.items ++ flat_map (slots_of l.capacity) (range_with_len 0 l.rtype)
