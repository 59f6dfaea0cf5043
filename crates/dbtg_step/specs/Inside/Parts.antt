-- How the parts in memory show the machine.
use Rattle.std.specs.Prelude.{ℕ, List, [], ◌∷◌, Option, Some, None, length, slice_set}
use Rattle.dbtg_schema.specs.Lists.{Lists}
use Rattle.dbtg_cells.specs.declared.cell.Cell.{Cell}
use Rattle.dbtg_cells.specs.declared.name.CellName.{CellName}
use Rattle.dbtg_cells.specs.CellNumbers.{cell_number}
use Rattle.dbtg_step.specs.declared.parts.Parts.{Parts}
use Rattle.dbtg_step.specs.declared.parts.CellLocation.{CellLocation}
use Rattle.dbtg_step.specs.declared.parts.CellLocation.TheVariants.{Home as AtHome}
use Rattle.dbtg_step.specs.declared.parts.StatementProgress.{StatementProgress}
use Rattle.dbtg_step.specs.Machine.Machine.{State}
use Rattle.dbtg_step.specs.Machine.Headline.{opening_of}
use Rattle.dbtg_step.specs.Machine.Network.{network}
use Rattle.dbtg_step.specs.Core.Parts.{CoreState, state_from}

-- the table with a cell at home; as it was where the schema has no such cell
abbrev pub home_at : Cell → List CellLocation → Option ℕ → List CellLocation
home_at x table None = table
home_at x table (Some n) = slice_set table n (AtHome x)

-- the same by the name of the cell
abbrev pub written_home : Lists → ℕ → CellName → Cell → List CellLocation → List CellLocation
written_home schema capacity c x table = home_at x table (cell_number schema capacity c)

-- the table with these cells at home
abbrev pub written_homes : Lists → ℕ → List (CellName × Cell) → List CellLocation → List CellLocation
written_homes schema capacity [] table = table
written_homes schema capacity (e ∷ es) table = written_homes schema capacity es (written_home schema capacity e.0 e.1 table)

-- a statement is over when nothing is held any more
abbrev pub progress_while_held : List ℕ → List (CellName × Cell) → Option StatementProgress → Option StatementProgress
progress_while_held [] [] progress = None
progress_while_held areas cells progress = progress

-- the parts as a state of the machine
abbrev pub state_of : (schema : Lists) (capacity : ℕ) → Parts → State (network schema capacity)
state_of schema capacity parts = state_from schema capacity parts.table.items parts.history.items parts.runners.items

-- the core that the parts are
abbrev pub core_of : Lists → ℕ → Parts → CoreState
core_of schema capacity parts = record { schema = schema; capacity = capacity; opening = opening_of schema capacity (length parts.runners.items); state = state_of schema capacity parts }
