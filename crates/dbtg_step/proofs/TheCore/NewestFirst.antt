-- The machine has what a unit holds with the newest first, and the hands have it last.
use Rattle.std.proofs.Common.{◌≡◌, ℕ, zero, suc, ◌-◌, List, [], ◌∷◌, length, map, slice_get, refl, sym, ap, ◌∙◌, arith}
use Rattle.std.specs.Prelude.{Option, None, Some, get_or, option_map, reverse}
use Rattle.std.proofs.lemmas.List.{get_or-reverse, length-reverse, length-map}
use Rattle.std.proofs.lemmas.Option.{slice_get-get_or}
use Rattle.dbtg_schema.specs.Lists.{Lists}
use Rattle.dbtg_cells.specs.declared.cell.Cell.{Cell}
use Rattle.dbtg_cells.specs.declared.name.CellName.{CellName}
use Rattle.dbtg_cells.specs.Shown.{CellValue}
use Rattle.dbtg_step.specs.declared.parts.UnitState.{UnitState}
use Rattle.dbtg_step.specs.declared.parts.StatementProgress.{StatementProgress}
use Rattle.dbtg_step.specs.declared.watching.Newest.{Newest}
use Rattle.dbtg_step.specs.Machine.Machine.{held_areas, held_cells}
use Rattle.dbtg_step.specs.Machine.SequentialDatabase.{HeldCell}
use Rattle.dbtg_step.specs.Core.Newest.{newest_of}
use Rattle.dbtg_step.specs.Core.Parts.{held_cells_of, held_of, unit_state_of}

pub first_of_reverse : {X : Type 0} (xs : List X) → slice_get (reverse xs) 0 ≡ slice_get xs (length xs - 1)
first_of_reverse [] = refl
first_of_reverse (x ∷ xs) =
    slice_get-get_or (reverse (x ∷ xs)) 0 x (omega (arith, length-reverse (x ∷ xs)))
    ∙ ap Some (get_or-reverse (x ∷ xs) 0 x (omega arith) ∙ ap (λ k. get_or (x ∷ xs) k x) (omega arith))
    ∙ sym (slice_get-get_or (x ∷ xs) (length (x ∷ xs) - 1) x (omega arith))

abbrev pub newest : Option ℕ → Option CellName → Newest
newest area cell = record { area = area; cell = cell }

-- the last of the held cells is the machine's first, under its name
pub newest_cell : (cells : List (CellName × Cell))
    → option_map (λ (e : CellName × Cell). e.0) (slice_get cells (length cells - 1)) ≡ option_map (λ (h : HeldCell CellName CellValue). h.name) (slice_get (held_cells_of cells) 0)
newest_cell cells =
    sym (option_map-map cells (length cells - 1))
    ∙ ap (λ n. option_map (λ (h : HeldCell CellName CellValue). h.name) (slice_get (map held_of cells) (n - 1))) (sym (length-map cells held_of))
    ∙ ap (option_map (λ (h : HeldCell CellName CellValue). h.name)) (sym (first_of_reverse (map held_of cells)))
  where
    option_map-map : (es : List (CellName × Cell)) (k : ℕ)
        → option_map (λ (h : HeldCell CellName CellValue). h.name) (slice_get (map held_of es) k) ≡ option_map (λ (e : CellName × Cell). e.0) (slice_get es k)
    option_map-map [] k = refl
    option_map-map (e ∷ es) zero = refl
    option_map-map (e ∷ es) (suc k) = option_map-map es k

-- what a unit in mid-statement took last, by its hands
pub newest_by_hands : (schema : Lists) (capacity : ℕ) (r : UnitState) (w : StatementProgress) → r.progress ≡ Some w → (area : Option ℕ) (cell : Option CellName)
    → area ≡ slice_get r.held.areas (length r.held.areas - 1)
    → cell ≡ option_map (λ (e : CellName × Cell). e.0) (slice_get r.held.cells (length r.held.cells - 1))
    → newest area cell ≡ newest_of (unit_state_of schema capacity r)
unfolding held_areas held_cells
newest_by_hands schema capacity r w mid area cell area_is cell_is =
    ap (λ a. newest a cell) (area_is ∙ sym (first_of_reverse r.held.areas))
    ∙ ap (newest (slice_get (reverse r.held.areas) 0)) (cell_is ∙ newest_cell r.held.cells)
    ∙ sym (ap (λ (p : Option StatementProgress). newest_of (unit_state_of schema capacity (record r { progress = p }))) mid)

-- a unit between statements holds nothing
pub newest_between : (schema : Lists) (capacity : ℕ) (r : UnitState) → r.progress ≡ None → newest_of (unit_state_of schema capacity r) ≡ record { area = None; cell = None }
unfolding held_areas held_cells
newest_between schema capacity r between = ap (λ (p : Option StatementProgress). newest_of (unit_state_of schema capacity (record r { progress = p }))) between
