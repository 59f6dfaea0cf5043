-- What a statement does with the cells that it holds.
-- c is the name of a cell, e a cell with its name, db a database.
use Rattle.std.specs.Prelude.{◌≡◌, ℕ, Bool, true, false, cond, List, [], ◌∷◌, ⊤}
use Rattle.dbtg_schema.specs.Lists.{Lists}
use Rattle.dbtg_cells.specs.declared.name.CellName.{CellName}
use Rattle.dbtg_cells.specs.declared.cell.Cell.{Cell}
use Rattle.dbtg_cells.specs.Cells.{shown}
use Rattle.dbtg_unit.specs.declared.unit.Unit.{Unit}
use Rattle.dbtg_unit.specs.Database.State.Base.{Database}
use Rattle.dbtg_unit.specs.Database.State.Cells.{cell}
use Rattle.dbtg_unit.specs.Database.State.Legal.{Legal, UsageAgrees}
use Rattle.dbtg_unit.specs.Hands.Hands.{Hands}
use Rattle.std.specs.Prelude.{map}
use Rattle.dbtg_cells.specs.Names.{name_eq}

-- a cell with this name is held
abbrev pub holds : List (CellName × Cell) → CellName → Bool
holds [] c = false
holds (e ∷ es) c = cond (name_eq c e.0) true (holds es c)

-- each held cell is as the database has it
abbrev pub AllAgree : Lists → ℕ → Database → List (CellName × Cell) → Type 0
AllAgree schema capacity db [] = ⊤
AllAgree schema capacity db (e ∷ es) = (shown e.1 ≡ cell schema capacity db e.0) × AllAgree schema capacity db es

-- a database to which the cells that this unit holds may belong
pub record Agrees (schema : Lists) (capacity : ℕ) (db : Database) (hands : Hands) (unit : Unit) : Type 0 where
  pub legal : Legal schema capacity db
  pub cells : AllAgree schema capacity db hands.cells
  pub usage : UsageAgrees db unit

-- the names of cells
abbrev pub names_of : List (CellName × Cell) → List CellName
names_of = map (λ e. e.0)
