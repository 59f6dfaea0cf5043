use Rattle.std.proofs.Common.{◌≡◌, ◌∷◌, [], List, drop}
use Rattle.std.specs.List.{flat_map}
use Rattle.dbtg_cells.specs.declared.cell.Cell.{Cell}
use Rattle.dbtg_cells.specs.declared.name.CellName.{CellName}
use Rattle.dbtg_unit.specs.Hands.Making.{AreMade, CanMake}
use Rattle.dbtg_plan.specs.Inside.Store.{opening_edit, edits_of_opening}
use Rattle.dbtg_plan.proofs.storing.open_occurrences.Given as goal

-- the openings that are left can be made, and lead to where all lead
abbrev pub invariant-loop-set : goal.invariant-loop-set
invariant-loop-set l =
    record {
      can_make : CanMake (flat_map (λ s. opening_edit l.key s ∷ []) (drop l.set-index l.set-items)) l.held.cells;
      leads : (new : List (CellName × Cell)) → AreMade (flat_map (λ s. opening_edit l.key s ∷ []) (drop l.set-index l.set-items)) l.held.cells new → AreMade (edits_of_opening l.schema l.key) l.initial.held.cells new;
      areas : l.held.areas ≡ l.initial.held.areas;
      guesses : l.held.guesses ≡ l.initial.held.guesses;
    }
