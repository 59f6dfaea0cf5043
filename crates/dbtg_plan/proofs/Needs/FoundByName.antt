-- A cell is held where its name is found.
use Rattle.std.proofs.Common.{◌≡◌, refl, sym, ◌∙◌, ap, true, false, cond, not, ◌||◌, List, [], ◌∷◌, Option, Some}
use Rattle.std.specs.Prelude.{is_some}
use Rattle.std.specs.List.{list_any}
use Rattle.std.proofs.lemmas.Bool.{not-false}
use Rattle.dbtg_cells.specs.declared.name.CellName.{CellName}
use Rattle.dbtg_cells.specs.declared.cell.Cell.{Cell}
use Rattle.dbtg_cells.specs.Names.{name_eq}
use Rattle.dbtg_unit.specs.Hands.Hands.{Hands, cell_of}
use Rattle.dbtg_unit.specs.Hands.Local.{holds}
use Rattle.dbtg_unit.specs.Hands.Needs.{is_missing}

found_by_name : (c : CellName) (cells : List (CellName × Cell)) → is_some (cell_of c cells) ≡ list_any (λ e. name_eq c e.0) cells
found_by_name c [] = refl
found_by_name c (e ∷ es) = elim (name_eq c e.0) as (λ b. is_some (cond b (Some e.1) (cell_of c es)) ≡ (b || list_any (λ e. name_eq c e.0) es)) [ true ↦ refl | false ↦ found_by_name c es ]

-- where there is one it is not missing, and where there is none it is
pub missing_by_name : (hands : Hands) (c : CellName) (o : Option Cell) → o ≡ cell_of c hands.cells → is_missing hands c ≡ not (is_some o)
missing_by_name hands c o e = ap not (sym (found_by_name c hands.cells) ∙ ap is_some (sym e))

-- a cell is held or it is missing
missing_or_held : (c : CellName) (cells : List (CellName × Cell)) → list_any (λ e. name_eq c e.0) cells ≡ holds cells c
missing_or_held c [] = refl
missing_or_held c (e ∷ es) = elim (name_eq c e.0) as (λ b. (b || list_any (λ e. name_eq c e.0) es) ≡ cond b true (holds es c)) [ true ↦ refl | false ↦ missing_or_held c es ]

pub is_held : (hands : Hands) (c : CellName) → is_missing hands c ≡ false → holds hands.cells c ≡ true
is_held hands c there = sym (missing_or_held c hands.cells) ∙ not-false _ there
