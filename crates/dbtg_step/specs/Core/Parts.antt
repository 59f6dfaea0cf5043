-- What the parts of the core show of the machine.
use Rattle.std.specs.Prelude.{ℕ, List, Option, Some, None, drop, map, length, reverse, slice_get}
use Rattle.dbtg_schema.specs.Lists.{Lists}
use Rattle.dbtg_cells.specs.declared.cell.Cell.{Cell}
use Rattle.dbtg_cells.specs.declared.name.CellName.{CellName}
use Rattle.dbtg_cells.specs.CellNumbers.{cell_number}
use Rattle.dbtg_cells.specs.Cells.{shown}
use Rattle.dbtg_cells.specs.Shown.{CellValue}
use Rattle.dbtg_unit.specs.declared.unit.Entry.{Entry}
use Rattle.dbtg_unit.specs.Database.State.Base.{opening}
use Rattle.dbtg_unit.specs.Database.State.Cells.{cell}
use Rattle.dbtg_unit.specs.Hands.Hands.{Hands}
use Rattle.dbtg_step.specs.declared.parts.CellLocation.{CellLocation as CoreLocation}
use Rattle.dbtg_step.specs.declared.parts.CellLocation.TheVariants.{Home as AtHome, HeldBy as WithUnit}
use Rattle.dbtg_step.specs.declared.parts.UnitState.{UnitState as CoreUnit}
use Rattle.dbtg_step.specs.declared.parts.StatementProgress.{StatementProgress as CoreProgress}
use Rattle.dbtg_step.specs.Machine.SequentialDatabase.{HeldCell}
use Rattle.dbtg_step.specs.Machine.Machine.{CellLocation, Home, HeldBy, StatementProgress, UnitState, HistoryEntry, State, SequentialState}
use Rattle.dbtg_step.specs.Machine.Headline.{opening_of}
use Rattle.dbtg_step.specs.Machine.Network.{network}

-- THE TABLE

-- the machine's location of a cell at this place
abbrev pub location_of : CoreLocation → CellLocation CellValue
location_of (AtHome x) = Home (shown x)
location_of (WithUnit u) = HeldBy u

-- a cell that the table does not have is at home as the opening database shows it
abbrev pub found_location : Lists → ℕ → CellName → Option CoreLocation → CellLocation CellValue
found_location schema capacity c None = Home (cell schema capacity (opening schema) c)
found_location schema capacity c (Some p) = location_of p

-- where the table has cell c, by its number; one that the schema does not have is at home
abbrev pub location_in : Lists → ℕ → List CoreLocation → CellName → Option ℕ → CellLocation CellValue
location_in schema capacity table c None = Home (cell schema capacity (opening schema) c)
location_in schema capacity table c (Some n) = found_location schema capacity c (slice_get table n)

-- where the table has a cell
unfoldable pub location_at : Lists → ℕ → List CoreLocation → CellName → CellLocation CellValue
location_at schema capacity table c = location_in schema capacity table c (cell_number schema capacity c)

-- THE UNITS

-- a held cell as the machine has it
abbrev pub held_of : CellName × Cell → HeldCell CellName CellValue
held_of e = record { name = e.0; value = shown e.1 }

-- the machine has the newest first
abbrev pub held_cells_of : List (CellName × Cell) → List (HeldCell CellName CellValue)
held_cells_of cells = reverse (map held_of cells)

-- the machine's progress of a progress
abbrev pub shown_progress : (schema : Lists) (capacity : ℕ) → Hands → CoreProgress → StatementProgress (network schema capacity)
shown_progress schema capacity hands progress = record {
  exclusive = progress.exclusive;
  areas = reverse hands.areas;
  cells = held_cells_of hands.cells;
  turning_back = progress.turning_back;
  ticket = progress.ticket;
  linked = progress.linked;
}

-- the same for a unit that may be between statements
abbrev pub progress_of : (schema : Lists) (capacity : ℕ) → Hands → Option CoreProgress → Option (StatementProgress (network schema capacity))
progress_of schema capacity hands None = None
progress_of schema capacity hands (Some progress) = Some (shown_progress schema capacity hands progress)

-- the machine's state of a unit
abbrev pub unit_state_of : (schema : Lists) (capacity : ℕ) → CoreUnit → UnitState (network schema capacity)
unit_state_of schema capacity r = record {
  unit = r.unit;
  guesses = r.held.guesses;
  script = r.script;
  remaining = drop r.next r.script;
  progress = progress_of schema capacity r.held r.progress;
}

-- THE STATE

-- an entry as the machine has it
abbrev pub note_of : {schema : Lists} {capacity : ℕ} → Entry → HistoryEntry (network schema capacity)
note_of e = record { ticket = e.ticket; unit = e.unit; statement = e.statement; answer = e.answer }

-- the machine's state by table, history and units
unfoldable pub state_from : (schema : Lists) (capacity : ℕ) → List CoreLocation → List Entry → List CoreUnit → State (network schema capacity)
state_from schema capacity table history runners = record {
  location = location_at schema capacity table;
  history = map note_of history;
  counter = length history;
  units = map (unit_state_of schema capacity) runners;
}

-- WHAT THE CORE SHOWS

-- the machine that the core is: its schema and capacity, the opening state of its database, and its state
pub record CoreState : Type 0 where
  pub schema : Lists
  pub capacity : ℕ
  pub opening : SequentialState (network schema capacity)
  pub state : State (network schema capacity)

-- the same core in another state
abbrev pub with_state : (c : CoreState) → State (network c.schema c.capacity) → CoreState
with_state c s = record { schema = c.schema; capacity = c.capacity; opening = c.opening; state = s }

-- what a core has: where each cell is, by its number, the statements that drew a ticket, and the units
pub record CoreParts : Type 0 where
  pub schema : Lists
  pub capacity : ℕ
  pub table : List CoreLocation
  pub history : List Entry
  pub runners : List CoreUnit

-- a core as the machine that it is
abbrev pub machine : CoreParts → CoreState
machine c = record { schema = c.schema; capacity = c.capacity; opening = opening_of c.schema c.capacity (length c.runners); state = state_from c.schema c.capacity c.table c.history c.runners }
