use Rattle.std.proofs.Common.{◌≡◌, ◌++◌, Some, map}
use Rattle.std.specs.Vec.Iter.{into_iter_items}
use Rattle.dbtg_cells.specs.declared.cell.Cell.{Cell}
use Rattle.dbtg_run.proofs.making.slots_of.Given as goal

-- the slots that are filled and the cells that are left are all cells
abbrev pub invariant-loop-cell : goal.invariant-loop-cell
invariant-loop-cell l = l.slots.items ++ map (λ (x : Cell). Some x) (into_iter_items l.cell-iterator) ≡ map (λ (x : Cell). Some x) l.fn.cells.items
