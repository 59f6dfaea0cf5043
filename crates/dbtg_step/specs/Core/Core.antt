-- What every core satisfies: everything on which a caller may rely between two steps, without the machine of events.
-- u and w are numbers of units, r and q units with their scripts and what they hold, c the name of a cell, x a cell, a an area.
use Rattle.std.specs.Prelude.{ℕ, ◌≡◌, ◌≢◌, Bool, false, [], ◌++◌, Some, None, drop, length, map, slice_get}
use Rattle.std.specs.Option.{option_map_or}
use Rattle.dbtg_cells.specs.declared.cell.Cell.{Cell}
use Rattle.dbtg_cells.specs.declared.name.CellName.{CellName}
use Rattle.dbtg_cells.specs.CellNumbers.{cell_count, cell_number}
use Rattle.dbtg_cells.specs.Cells.{shown}
use Rattle.dbtg_unit.specs.Database.State.CellNames.{area_of_cell}
use Rattle.dbtg_unit.specs.Database.State.Cells.{cell}
use Rattle.dbtg_unit.specs.Database.State.Image.{image_of}
use Rattle.dbtg_unit.specs.Database.State.LegalWith.{LegalWith}
use Rattle.dbtg_unit.specs.Database.Laws.Replay.{AnswersHold, State, TicketsInOrder, entries_of, opening_state, replay}
use Rattle.dbtg_step.specs.declared.parts.CellLocation.{CellLocation}
use Rattle.dbtg_step.specs.declared.parts.CellLocation.TheVariants.{Home, HeldBy}
use Rattle.dbtg_step.specs.declared.parts.UnitState.{UnitState}
use Rattle.dbtg_step.specs.Machine.SequentialDatabase.{In, unit_at}
use Rattle.dbtg_step.specs.Machine.Headline.{IsSequential}
use Rattle.dbtg_step.specs.Core.Parts.{CoreParts}

-- the opening database with its units
abbrev pub start : CoreParts → State
start core = opening_state core.schema (length core.runners)

-- the sequential database, with its units, to which the history leads
abbrev pub state_now : CoreParts → State
state_now core = replay core.schema core.capacity (start core) core.history

-- what this database has for a cell
abbrev pub HasNow : CoreParts → CellName → Cell → Type 0
HasNow core c x = shown x ≡ cell core.schema core.capacity (state_now core).database c

-- the unit with this number
abbrev pub IsRunner : CoreParts → ℕ → UnitState → Type 0
IsRunner core u r = unit_at core.runners u ≡ Some r

-- where a cell is
abbrev pub IsAt : CoreParts → CellName → CellLocation → Type 0
IsAt core c p = (n : ℕ) × (cell_number core.schema core.capacity c ≡ Some n) × (slice_get core.table n ≡ Some p)

-- a unit in mid-statement has its areas for itself
abbrev pub is_alone : UnitState → Bool
is_alone r = option_map_or (λ progress. progress.exclusive) r.progress false

-- what unit u holds: each cell was taken from its place, lies in a held area, and is as the database has it, also where its
-- new value, after the ticket, is not given back yet; between statements nothing is held
pub record HandsFit (core : CoreParts) (u : ℕ) (r : UnitState) : Type 0 where
  pub taken : (e : CellName × Cell) → In e r.held.cells → IsAt core e.0 (HeldBy u)
  pub values : (e : CellName × Cell) → In e r.held.cells → HasNow core e.0 e.1
  pub in_area : (e : CellName × Cell) → In e r.held.cells → In (area_of_cell core.schema e.0) r.held.areas
  pub settled : r.progress ≡ None → (r.held.areas ≡ []) × (r.held.cells ≡ [])

-- two units that hold an area share it
abbrev pub AreasShared : UnitState → UnitState → Type 0
AreasShared r q = (a : ℕ) → In a r.held.areas → In a q.held.areas → (is_alone r ≡ false) × (is_alone q ≡ false)

-- a unit holds this cell
pub record IsInHandsOf (core : CoreParts) (u : ℕ) (c : CellName) : Type 0 where
  pub who : UnitState
  pub is : IsRunner core u who
  pub what : CellName × Cell
  pub there : In what who.held.cells
  pub name : what.0 ≡ c

-- WHAT A CORE IS
pub record IsCore (core : CoreParts) : Type 0 where
  -- the history is one of the sequential database, and the units are those to which it leads
  pub tickets : TicketsInOrder core.history
  pub answers : AnswersHold core.schema core.capacity (start core) core.history
  pub units : map (λ r. r.unit) core.runners ≡ (state_now core).units
  pub legal : LegalWith core.schema core.capacity (state_now core).database (state_now core).units
  -- a unit's entries are the beginning of its script, and the rest is still to be made
  pub scripts : (u : ℕ) (r : UnitState) → IsRunner core u r → map (λ e. e.statement) (entries_of u core.history) ++ drop r.next r.script ≡ r.script
  -- each cell of the schema has a place: there it is as the database has it, or one unit holds it
  pub places : length core.table ≡ cell_count core.schema core.capacity
  pub home : (c : CellName) (x : Cell) → IsAt core c (Home x) → HasNow core c x
  pub holder : (c : CellName) (u : ℕ) → IsAt core c (HeldBy u) → IsInHandsOf core u c
  pub hands : (u : ℕ) (r : UnitState) → IsRunner core u r → HandsFit core u r
  -- areas are shared, or one unit has them alone
  pub areas : (u w : ℕ) (r q : UnitState) → u ≢ w → IsRunner core u r → IsRunner core w q → AreasShared r q

-- from that the headline follows, with the image of the database to which the history leads, which `Core::image` gives
abbrev pub EveryCoreIsSequential : Type 0
EveryCoreIsSequential =
    (core : CoreParts) → IsCore core →
    IsSequential core.schema core.capacity (map (λ r. r.script) core.runners) core.history (image_of core.schema core.capacity (state_now core).database) (map (λ r. r.unit) core.runners)
