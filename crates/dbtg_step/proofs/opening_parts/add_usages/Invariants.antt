use Rattle.std.proofs.Common.{◌≡◌, ◌++◌, map}
use Rattle.std.specs.List.{range_with_len}
use Rattle.dbtg_cells.specs.declared.name.CellName.TheVariants.{Usage}
use Rattle.dbtg_step.proofs.opening_parts.add_usages.Given as goal

abbrev pub invariant-loop-area : goal.invariant-loop-area
invariant-loop-area l = l.names.items ≡ l.initial.names.items ++ map Usage (range_with_len 0 l.area)
