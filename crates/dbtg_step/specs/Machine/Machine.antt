-- The states of the machine of events, and the replay of a history on the sequential database.
use Rattle.std.specs.Prelude.{ℕ, ◌≡◌, Bool, false, cond, eqb, List, [], ◌∷◌, Option, Some, None}
use Rattle.dbtg_step.specs.Machine.SequentialDatabase.{HeldCells, SequentialDatabase, unit_at, with_unit_at}

-- where a cell is: at home with its value, or with the unit that holds it
pub data CellLocation (V : Type 0) : Type 0 where
  Home : V → CellLocation V
  HeldBy : ℕ → CellLocation V

module _ (D : SequentialDatabase) where
  -- how far a unit is with its statement. Areas and cells are listed with the newest first; `linked` counts the cells that are
  -- linked after the ticket, in the order of taking
  pub record StatementProgress : Type 0 where
    pub exclusive : Bool
    pub areas : List ℕ
    pub cells : HeldCells D
    pub turning_back : Bool
    pub ticket : Option ℕ
    pub linked : ℕ

  -- a run-unit: `remaining` has the statements of its script that have no ticket yet; without progress it is between
  -- statements
  pub record UnitState : Type 0 where
    pub unit : D.Unit
    pub guesses : D.Guesses
    pub script : List D.Statement
    pub remaining : List D.Statement
    pub progress : Option StatementProgress

  -- a statement that drew a ticket
  pub record HistoryEntry : Type 0 where
    pub ticket : ℕ
    pub unit : ℕ
    pub statement : D.Statement
    pub answer : D.Answer

  -- a state of the machine. The latch of an area is not a part of it: it says which units hold the area
  pub record State : Type 0 where
    pub location : D.Cell → CellLocation D.Value
    pub history : List HistoryEntry
    pub counter : ℕ
    pub units : List UnitState

  -- the sequential database with its units
  pub record SequentialState : Type 0 where
    pub database : D.Db
    pub units : List D.Unit

  -- the sequential state after statement x of unit u; as it was if there is no such unit
  unfoldable pub with_effect : SequentialState → ℕ → D.Statement → Option D.Unit → SequentialState
  with_effect q u x None = q
  with_effect q u x (Some unit) = record { database = (D.effect q.database unit x).database; units = with_unit_at q.units u (D.effect q.database unit x).unit }

  -- after one statement, taken whole
  unfoldable pub after_entry : SequentialState → HistoryEntry → SequentialState
  after_entry q e = with_effect q e.unit e.statement (unit_at q.units e.unit)

  -- after a history, in the order of its tickets
  unfoldable pub replay : SequentialState → List HistoryEntry → SequentialState
  replay q [] = q
  replay q (e ∷ es) = replay (after_entry q e) es

  -- each entry is a unit's, with the answer of the sequential database
  unfoldable pub AnswersHold : SequentialState → List HistoryEntry → Type 0
  AnswersHold q [] = Unit {0}
  AnswersHold q (e ∷ es) = (unit : D.Unit) × (unit_at q.units e.unit ≡ Some unit) × ((D.effect q.database unit e.statement).answer ≡ e.answer) × AnswersHold (after_entry q e) es

  -- the statements of unit u in the history
  unfoldable pub statements_of : ℕ → List HistoryEntry → List D.Statement
  statements_of u [] = []
  statements_of u (e ∷ es) = cond (eqb e.unit u) (e.statement ∷ statements_of u es) (statements_of u es)

  -- cell c is at another location
  unfoldable pub relocated : (D.Cell → CellLocation D.Value) → D.Cell → CellLocation D.Value → D.Cell → CellLocation D.Value
  relocated location c p d = cond (D.same_name d c) p (location d)

  -- all held cells are put back
  unfoldable pub all_home : (D.Cell → CellLocation D.Value) → HeldCells D → D.Cell → CellLocation D.Value
  all_home location [] = location
  all_home location (h ∷ hs) = all_home (relocated location h.name (Home h.value)) hs

  -- a statement that has just begun
  unfoldable pub begun : D.Statement → StatementProgress
  begun x = record { exclusive = D.is_exclusive x; areas = []; cells = []; turning_back = false; ticket = None; linked = 0 }

  -- a statement that has its ticket is over when nothing is held any more
  unfoldable pub unless_over : StatementProgress → List ℕ → HeldCells D → Option StatementProgress
  unless_over w [] [] = None
  unless_over w areas cells = Some w

  -- what a unit holds
  unfoldable pub held_cells : Option StatementProgress → HeldCells D
  held_cells None = []
  held_cells (Some w) = w.cells

  -- the areas that a unit holds, none between statements
  unfoldable pub held_areas : Option StatementProgress → List ℕ
  held_areas None = []
  held_areas (Some w) = w.areas

  -- it holds them exclusively
  unfoldable pub holds_exclusively : Option StatementProgress → Bool
  holds_exclusively None = false
  holds_exclusively (Some w) = w.exclusive

  -- its ticket, if it has one
  unfoldable pub ticket_of : Option StatementProgress → Option ℕ
  ticket_of None = None
  ticket_of (Some w) = w.ticket
