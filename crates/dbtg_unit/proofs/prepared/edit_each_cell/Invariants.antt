use Rattle.std.proofs.Common.{◌≡◌, length, List}
use Rattle.std.specs.Vec.Iter.{into_iter_items, into_iter_len}
use Rattle.dbtg_cells.specs.declared.cell.Cell.{Cell}
use Rattle.dbtg_cells.specs.declared.name.CellName.{CellName}
use Rattle.dbtg_unit.specs.Hands.Making.{AreMade, CanMake}
use Rattle.dbtg_unit.proofs.prepared.edit_each_cell.Given as goal

-- the edits that are left can be made, and lead to where all lead
abbrev pub invariant-loop-edit : goal.invariant-loop-edit
invariant-loop-edit l =
    record {
      can_make : CanMake (into_iter_items l.edit-iterator) l.held.cells;
      leads : (new : List (CellName × Cell)) → AreMade (into_iter_items l.edit-iterator) l.held.cells new → AreMade l.fn.edits l.initial.held.cells new;
      areas : l.held.areas ≡ l.initial.held.areas;
      guesses : l.held.guesses ≡ l.initial.held.guesses;
      as_many : into_iter_len l.edit-iterator ≡ length (into_iter_items l.edit-iterator);
    }
