-- A word beside `Cells` that private functions and lemmas use.
use Rattle.std.specs.Prelude.{◌≡◌, ℕ}
use Rattle.dbtg_schema.specs.Lists.{Lists}
use Rattle.dbtg_cells.specs.declared.name.CellName.{CellName}
use Rattle.dbtg_cells.specs.Shown.{CellValue}
use Rattle.dbtg_unit.specs.Database.State.Base.{Database}
use Rattle.dbtg_unit.specs.Database.State.Cells.{cell}

-- the cells show the database
abbrev pub Shows : Lists → ℕ → (CellName → CellValue) → Database → Type 0
Shows schema capacity cells db = (c : CellName) → cells c ≡ cell schema capacity db c
