use Rattle.std.proofs.Common.{◌≡◌, ◌++◌, ◌+◌, ◌≤◌, length, map}
use Rattle.std.specs.Vec.{vec_capacity}
use Rattle.std.specs.Vec.Iter.{into_iter_items}
use Rattle.dbtg_step.specs.Core.Openings.{homes_shown}
use Rattle.dbtg_step.specs.Core.Parts.{location_of}
use Rattle.dbtg_step.proofs.opening_parts.at_home.Given as goal

-- the cells that are placed and those that are left are all cells, and there is room for each
abbrev pub invariant-loop-cell : goal.invariant-loop-cell
invariant-loop-cell l =
    record {
      is : map location_of l.table.items ++ homes_shown (into_iter_items l.cell-iterator) ≡ homes_shown l.fn.cells.items;
      room : length l.table.items + length (into_iter_items l.cell-iterator) ≤ vec_capacity l.table;
    }
