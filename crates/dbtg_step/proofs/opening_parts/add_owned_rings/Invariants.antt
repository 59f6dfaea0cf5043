use Rattle.std.proofs.Common.{◌≡◌, ◌++◌, Some, map}
use Rattle.std.specs.List.{range_with_len}
use Rattle.dbtg_cells.specs.declared.name.CellName.TheVariants.{Ring}
use Rattle.dbtg_step.proofs.opening_parts.add_owned_rings.Given as goal

abbrev pub invariant-loop-lower : goal.invariant-loop-lower
invariant-loop-lower l = l.names.items ≡ l.initial.names.items ++ map (λ n. Ring l.set (Some (l.owner, n))) (range_with_len 1 l.lower)
