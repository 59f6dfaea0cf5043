-- What a statement holds.
use Rattle.std.specs.Prelude.{◌≡◌, ℕ, ◌<◌, List, [], ◌∷◌, Option, Some, None, cond, slice_get}
use Rattle.dbtg_cells.specs.declared.name.CellName.{CellName}
use Rattle.dbtg_cells.specs.declared.cell.Cell.{Cell}
use Rattle.dbtg_cells.specs.declared.key.Owner.{Owner}
use Rattle.dbtg_cells.specs.declared.numbering.Layout.{Layout}
use Rattle.dbtg_cells.specs.CellNumbers.{place_in}
use Rattle.dbtg_cells.specs.Names.{name_eq}

-- the areas and cells that a statement holds, and by set the owner of the current of run-unit as the unit last saw it
pub record Hands : Type 0 where
  pub areas : List ℕ
  pub cells : List (CellName × Cell)
  pub guesses : List (Option Owner)

-- the held cell with this name
abbrev pub cell_of : CellName → List (CellName × Cell) → Option Cell
cell_of c [] = None
cell_of c (e ∷ es) = cond (name_eq c e.0) (Some e.1) (cell_of c es)

-- each of the first names, as many as this, stands at the number of its cell in a layout
abbrev pub StandAtNumbers : Layout → ℕ → List CellName → Type 0
StandAtNumbers layout count names = (n : ℕ) (c : CellName) → n < count → slice_get names n ≡ Some c → place_in layout c ≡ n
