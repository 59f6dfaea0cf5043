-- What an event leaves: a cell given, a cell taken or not, and a statement with its ticket or without.
-- table and after are the table before and after it, old and new what the unit is or holds; u is the number of the unit, w its progress,
-- n the number of a cell, c its name, x a statement.
use Rattle.std.specs.Prelude.{ℕ, ◌≡◌, ◌+◌, false, List, [], ◌∷◌, ◌++◌, Some, None, length, slice_get, slice_set}
use Rattle.dbtg_schema.specs.Lists.{Lists}
use Rattle.dbtg_cells.specs.declared.cell.Cell.{Cell}
use Rattle.dbtg_cells.specs.declared.name.CellName.{CellName}
use Rattle.dbtg_unit.specs.declared.statement.Statement.{Statement}
use Rattle.dbtg_unit.specs.declared.unit.Answer.{Answer}
use Rattle.dbtg_unit.specs.declared.unit.Entry.{Entry}
use Rattle.dbtg_unit.specs.declared.unit.Unit.{Unit}
use Rattle.dbtg_unit.specs.Database.State.Base.{Database}
use Rattle.dbtg_unit.specs.Database.Statements.Effect.{effect}
use Rattle.dbtg_unit.specs.Hands.Hands.{Hands}
use Rattle.dbtg_unit.specs.Hands.Locality.{IsMadeOn, seen}
use Rattle.dbtg_unit.specs.Hands.Making.{ShowsTheSame}
use Rattle.dbtg_step.specs.declared.parts.CellLocation.{CellLocation}
use Rattle.dbtg_step.specs.declared.parts.CellLocation.TheVariants.{Home as AtHome, HeldBy as WithUnit}
use Rattle.dbtg_step.specs.declared.parts.UnitState.{UnitState}
use Rattle.dbtg_step.specs.declared.parts.StatementProgress.{StatementProgress}
use Rattle.dbtg_unit.specs.declared.moves.Stepped.{Stepped}
use Rattle.dbtg_unit.specs.declared.moves.Stepped.TheVariants.{Moved, Blocked, Idle, NoMemory}
use Rattle.dbtg_step.specs.Inside.Parts.{progress_while_held, written_home}

-- the newest cell went home
pub record IsCellGiven (schema : Lists) (capacity : ℕ) (old new : Hands) (table after : List CellLocation) : Type 0 where
  pub which : CellName × Cell
  pub cells : old.cells ≡ new.cells ++ which ∷ []
  pub rest : new ≡ record old { cells = new.cells }
  pub home : after ≡ written_home schema capacity which.0 which.1 table

-- cell c, whose number is n, was at home and is in the hands of unit u
pub record IsMovedOut (u n : ℕ) (c : CellName) (table after : List CellLocation) (old new : Hands) : Type 0 where
  pub taken : Cell
  pub was : slice_get table n ≡ Some (AtHome taken)
  pub after_is : after ≡ slice_set table n (WithUnit u)
  pub held : new ≡ record old { cells = old.cells ++ (c, taken) ∷ [] }

-- table and hands are as they were
pub record IsLeftAlone (table after : List CellLocation) (old new : Hands) : Type 0 where
  pub after_is : after ≡ table
  pub held : new ≡ old

-- cell n is with some unit
abbrev pub IsAway : List CellLocation → ℕ → Type 0
IsAway table n = (w : ℕ) × (slice_get table n ≡ Some (WithUnit w))

-- cell n is at home
abbrev pub IsHome : List CellLocation → ℕ → Type 0
IsHome table n = (x : Cell) × (slice_get table n ≡ Some (AtHome x))

-- cell c is taken out of the table; or nothing changes, because a unit has it, or because memory was refused while it was at home
abbrev pub IsTaken : ℕ → ℕ → CellName → List CellLocation → List CellLocation → Hands → Hands → Stepped → Type 0
IsTaken u n c table after old new Moved = IsMovedOut u n c table after old new
IsTaken u n c table after old new Blocked = IsLeftAlone table after old new × IsAway table n
IsTaken u n c table after old new NoMemory = IsLeftAlone table after old new × IsHome table n
IsTaken u n c table after old new Idle = ⊥

-- the answer of statement x of this unit
abbrev pub answer_of : Lists → ℕ → Database → Unit → Statement → Answer
answer_of schema capacity db unit x = (effect schema capacity db unit x).answer

-- the progress after ticket t, before the first link
abbrev pub ticketed : StatementProgress → ℕ → StatementProgress
ticketed w t = record { exclusive = w.exclusive; turning_back = false; ticket = Some t; linked = 0 }

-- the runner after ticket t, with this unit and these hands: its next statement is due, and nothing is kept of the needs. It is
-- in mid-statement while it holds anything
abbrev pub behind_ticket : UnitState → StatementProgress → ℕ → Unit → Hands → UnitState
behind_ticket old w t unit hands = record {
  unit = unit;
  held = hands;
  script = old.script;
  next = old.next + 1;
  progress = progress_while_held hands.areas hands.cells (Some (ticketed w t));
  course = None;
}

-- the statement x drew the next ticket: its entry joins the history, and unit and hands are as its effect makes them
pub record IsDrawn (schema : Lists) (capacity : ℕ) (db : Database) (x : Statement) (u : ℕ) (w : StatementProgress) (history after : List Entry) (old new : UnitState) : Type 0 where
  pub history_is : after ≡ history ++ record { ticket = length history; unit = u; statement = x; answer = answer_of schema capacity db old.unit x } ∷ []
  pub made : IsMadeOn schema capacity db old.unit old.held x (seen (answer_of schema capacity db old.unit x) new.unit new.held)
  pub rest : new ≡ behind_ticket old w (length history) new.unit new.held

-- no ticket was drawn, as memory was refused: what the unit holds shows the same, and nothing is kept of how far the statement had come
pub record IsUnmade (old new : UnitState) : Type 0 where
  pub rest : new ≡ record old { held = new.held; course = None }
  pub shows : ShowsTheSame old.held new.held
