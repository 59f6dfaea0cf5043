-- What the core has before its first step.
use Rattle.std.specs.Prelude.{ℕ, List, map}
use Rattle.dbtg_schema.specs.Lists.{Lists}
use Rattle.dbtg_cells.specs.declared.name.CellName.{CellName}
use Rattle.dbtg_cells.specs.declared.cell.Cell.{Cell}
use Rattle.dbtg_cells.specs.Cells.{shown}
use Rattle.dbtg_cells.specs.Shown.{CellValue}
use Rattle.dbtg_unit.specs.Database.State.Base.{opening}
use Rattle.dbtg_unit.specs.Database.State.Cells.{cell}
use Rattle.dbtg_step.specs.Machine.Machine.{CellLocation, Home}

-- these cells at home
abbrev pub homes_shown : List Cell → List (CellLocation CellValue)
homes_shown = map (λ x. Home (shown x))

-- cells at home as the opening database has them
abbrev pub homes_of : Lists → ℕ → List CellName → List (CellLocation CellValue)
homes_of schema capacity = map (λ c. Home (cell schema capacity (opening schema) c))
