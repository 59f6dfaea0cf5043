use Rattle.std.proofs.Common.{◌≡◌, take}
use Rattle.dbtg_cells.proofs.value.copy_items.Given as goal

abbrev pub invariant-loop-item : goal.invariant-loop-item
invariant-loop-item l = l.copy.items ≡ take l.item-index l.items
