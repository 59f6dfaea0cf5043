-- What an event finds: how far a unit is with its statement; what it holds in the way of others; and that the table has a place for
-- a cell.
-- r is a runner, w its progress, a an area, c the name of a cell.
use Rattle.std.specs.List.{list_any}
use Rattle.std.specs.Prelude.{ℕ, ◌≡◌, ◌≤◌, ◌<◌, ◌==◌, ◌&&◌, ◌||◌, Bool, true, false, List, [], Option, Some, None, length}
use Rattle.dbtg_schema.specs.Lists.{Lists}
use Rattle.dbtg_cells.specs.CellNumbers.{cell_number}
use Rattle.dbtg_cells.specs.declared.cell.Cell.{Cell}
use Rattle.dbtg_cells.specs.declared.name.CellName.{CellName}
use Rattle.dbtg_step.specs.declared.parts.CellLocation.{CellLocation}
use Rattle.dbtg_step.specs.declared.parts.UnitState.{UnitState}
use Rattle.dbtg_step.specs.declared.parts.StatementProgress.{StatementProgress}
use Rattle.dbtg_step.specs.declared.runner.Phase.{Phase}
use Rattle.dbtg_step.specs.declared.runner.Phase.TheVariants.{Over, Between, TurningBack, Needing, Ticketed}
use Rattle.dbtg_step.specs.Machine.SequentialDatabase.{In}

-- a statement without a ticket is one of the script
abbrev pub HasStatement : UnitState → Type 0
HasStatement r = (w : StatementProgress) → r.progress ≡ Some w → w.ticket ≡ None → r.next < length r.script

-- between statements with none left
pub record StandsOver (r : UnitState) : Type 0 where
  pub none_left : length r.script ≤ r.next
  pub progress : r.progress ≡ None

-- between statements with one left
pub record StandsBetween (r : UnitState) : Type 0 where
  pub left : r.next < length r.script
  pub progress : r.progress ≡ None

-- in mid-statement without a ticket
pub record StandsBefore (r : UnitState) (w : StatementProgress) : Type 0 where
  pub left : r.next < length r.script
  pub progress : r.progress ≡ Some w
  pub ticket : w.ticket ≡ None

-- turning back, with cells still held
pub record StandsTurning (r : UnitState) (w : StatementProgress) : Type 0 where
  pub before : StandsBefore r w
  pub turning : w.turning_back ≡ true
  pub cells : 0 < length r.held.cells

-- about to take what it needs next; a unit that turned back has put all its cells back
pub record StandsNeeding (r : UnitState) (w : StatementProgress) : Type 0 where
  pub before : StandsBefore r w
  pub turned : w.turning_back ≡ true → r.held.cells ≡ []

-- in mid-statement with a ticket
pub record StandsTicketed (r : UnitState) (w : StatementProgress) : Type 0 where
  pub ticket : ℕ
  pub progress : r.progress ≡ Some w
  pub has : w.ticket ≡ Some ticket

-- in mid-statement without a ticket, whatever the progress, and whatever is left of the script
pub record StandsUnticketed (r : UnitState) : Type 0 where
  pub w : StatementProgress
  pub progress : r.progress ≡ Some w
  pub ticket : w.ticket ≡ None

-- what each answer says about the phase of a unit
abbrev pub IsStanding : UnitState → Phase → Type 0
IsStanding r Over = StandsOver r
IsStanding r Between = StandsBetween r
IsStanding r TurningBack = (w : StatementProgress) × StandsTurning r w
IsStanding r Needing = (w : StatementProgress) × StandsNeeding r w
IsStanding r Ticketed = (w : StatementProgress) × StandsTicketed r w

-- in this progress area a, if it is among these areas, is held in a conflicting way
abbrev pub progress_holds_against : Bool → ℕ → List ℕ → Option StatementProgress → Bool
progress_holds_against exclusive a areas None = false
progress_holds_against exclusive a areas (Some w) = list_any (λ b. b == a) areas && (exclusive || w.exclusive)

-- the unit holds area a in a conflicting way
abbrev pub holds_against : Bool → ℕ → UnitState → Bool
holds_against exclusive a r = progress_holds_against exclusive a r.held.areas r.progress

-- the table has a place for cell c
pub record HasPlace (schema : Lists) (capacity : ℕ) (c : CellName) (table : List CellLocation) : Type 0 where
  pub number : ℕ
  pub is : cell_number schema capacity c ≡ Some number
  pub within : number < length table

-- it has one for each of these cells
abbrev pub HavePlaces : Lists → ℕ → List (CellName × Cell) → List CellLocation → Type 0
HavePlaces schema capacity cells table = (e : CellName × Cell) → In e cells → HasPlace schema capacity e.0 table
