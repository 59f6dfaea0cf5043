use Rattle.std.proofs.Common.{◌≡◌, ◌++◌, Some, take}
use Rattle.std.specs.List.{flat_map}
use Rattle.dbtg_cells.specs.Numbers.{is_used, numbers_where}
use Rattle.dbtg_cells.specs.declared.name.CellName.TheVariants.{Ring}
use Rattle.dbtg_step.specs.Inside.Imaging.{found_in, list_of, occurrence_at}
use Rattle.dbtg_step.proofs.imaging.add_owned_lists.Given as goal

abbrev pub invariant-loop-place : goal.invariant-loop-place
invariant-loop-place l = l.lists.items ≡ l.initial.lists.items ++ flat_map (λ n. list_of (occurrence_at (found_in l.schema l.capacity l.source (Ring l.set (Some (l.rtype, n)))))) (take l.place (numbers_where is_used l.extent.numbers))
