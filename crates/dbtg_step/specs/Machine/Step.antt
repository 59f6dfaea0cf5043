-- The events of a unit: its step, its quit, and runs of moves.
use Rattle.std.specs.Prelude.{ℕ, zero, suc, Bool, true, false, ◌&&◌, ◌||◌, ltb, eqb, List, [], ◌∷◌, ◌++◌, length, Option, Some, None}
use Rattle.std.specs.List.{list_any}
use Rattle.dbtg_unit.specs.declared.moves.Move.{Move}
use Rattle.dbtg_unit.specs.declared.moves.Move.TheVariants.{Step, Quit}
use Rattle.dbtg_unit.specs.declared.moves.Stepped.{Stepped}
use Rattle.dbtg_unit.specs.declared.moves.Stepped.TheVariants.{Moved, Blocked, Idle}
use Rattle.dbtg_step.specs.Machine.SequentialDatabase.{HeldCells, NextNeed, NeedsArea, NeedsCell, StaleGuesses, NeedsNothing, SequentialDatabase, unit_at, with_unit_at}
use Rattle.dbtg_step.specs.Machine.Machine.{CellLocation, Home, HeldBy, StatementProgress, UnitState, State, SequentialState, replay, relocated, all_home, begun, unless_over, held_areas, holds_exclusively}

-- some element other than the one at index i passes
unfoldable pub any_but : {X : Type 0} → (X → Bool) → ℕ → List X → Bool
any_but p i [] = false
any_but p zero (x ∷ xs) = list_any p xs
any_but p (suc i) (x ∷ xs) = p x || any_but p i xs

-- some unit other than the one with number u passes
unfoldable pub any_other : {X : Type 0} → (X → Bool) → ℕ → List X → Bool
any_other p zero xs = list_any p xs
any_other p (suc i) xs = any_but p i xs

-- something is there
abbrev pub is_nonempty : {X : Type 0} → List X → Bool
is_nonempty [] = false
is_nonempty (x ∷ xs) = true

module _ (D : SequentialDatabase) where
  -- the result of a move: the state after one event, or no event
  pub data Transition : Type 0 where
    MovedTo : State D → Transition
    IsBlocked : Transition
    IsIdle : Transition

  -- the unit holds area a in a way that conflicts
  unfoldable pub conflicts : Bool → ℕ → UnitState D → Bool
  conflicts exclusive a state = list_any (eqb a) (held_areas D state.progress) && (exclusive || holds_exclusively D state.progress)

  -- the unit with these guesses and this progress
  abbrev pub with_progress : UnitState D → D.Guesses → Option (StatementProgress D) → UnitState D
  with_progress state guesses progress = record { unit = state.unit; guesses = guesses; script = state.script; remaining = state.remaining; progress = progress }

  -- after an event of unit u that draws no ticket
  unfoldable pub updated : State D → ℕ → UnitState D → (D.Cell → CellLocation D.Value) → D.Guesses → Option (StatementProgress D) → State D
  updated s u state location guesses progress = record {
    location = location;
    history = s.history;
    counter = s.counter;
    units = with_unit_at s.units u (with_progress state guesses progress);
  }

  -- the held cells with the values that they have in db
  unfoldable pub due_cells : D.Db → HeldCells D → HeldCells D
  due_cells db [] = []
  due_cells db (h ∷ hs) = record { name = h.name; value = D.cell db h.name } ∷ due_cells db hs

  -- after the ticket: the entry joins the history, the unit is the sequential database's, the held cells have their new values
  unfoldable pub with_ticket : SequentialState D → State D → ℕ → UnitState D → StatementProgress D → D.Statement → List D.Statement → State D
  with_ticket opening s u state w x xs =
      let db = (replay D opening s.history).database in
      let e = D.effect db state.unit x in
      record {
        location = s.location;
        history = s.history ++ record { ticket = s.counter; unit = u; statement = x; answer = e.answer } ∷ [];
        counter = suc s.counter;
        units = with_unit_at s.units u (record {
          unit = e.unit;
          guesses = D.guesses_after db state.unit x state.guesses;
          script = state.script;
          remaining = xs;
          progress = unless_over D (record { exclusive = w.exclusive; areas = w.areas; cells = due_cells e.database w.cells; turning_back = false; ticket = Some s.counter; linked = 0 }) w.areas (due_cells e.database w.cells);
        });
      }

  -- with a ticket: a link while one is left, then each cell goes back, then each area is left
  unfoldable pub after_ticket : State D → ℕ → UnitState D → StatementProgress D → Bool → HeldCells D → List ℕ → State D
  after_ticket s u state w true cells areas = updated s u state s.location state.guesses (Some (record w { linked = suc w.linked }))
  after_ticket s u state w false (h ∷ hs) areas = updated s u state (relocated D s.location h.name (Home h.value)) state.guesses (unless_over D (record w { cells = hs }) areas hs)
  after_ticket s u state w false [] (a ∷ areas) = updated s u state s.location state.guesses (unless_over D (record w { areas = areas }) areas [])
  after_ticket s u state w false [] [] = updated s u state s.location state.guesses None

  -- an area is taken unless another unit holds it in a way that conflicts
  unfoldable pub takes_area : State D → ℕ → UnitState D → StatementProgress D → ℕ → Bool → Transition
  takes_area s u state w a true = IsBlocked
  takes_area s u state w a false = MovedTo (updated s u state s.location state.guesses (Some (record w { areas = a ∷ w.areas })))

  -- a cell is taken if it is at home
  unfoldable pub takes_cell : State D → ℕ → UnitState D → StatementProgress D → D.Cell → CellLocation D.Value → Transition
  takes_cell s u state w c (HeldBy other) = IsBlocked
  takes_cell s u state w c (Home v) = MovedTo (updated s u state (relocated D s.location c (HeldBy u)) state.guesses (Some (record w { cells = record { name = c; value = v } ∷ w.cells })))

  -- what the statement needs next decides
  unfoldable pub follows_need : SequentialState D → State D → ℕ → UnitState D → StatementProgress D → D.Statement → List D.Statement → NextNeed D.Cell D.Guesses → Transition
  follows_need opening s u state w x xs (NeedsArea a) = takes_area s u state w a (any_other (conflicts w.exclusive a) u s.units)
  follows_need opening s u state w x xs (NeedsCell c) = takes_cell s u state w c (s.location c)
  follows_need opening s u state w x xs (StaleGuesses g) = MovedTo (updated s u state s.location g (Some (record w { turning_back = is_nonempty w.cells })))
  follows_need opening s u state w x xs NeedsNothing = MovedTo (with_ticket opening s u state w x xs)

  -- what a unit needs next, on the database of the history
  unfoldable pub next_need : SequentialState D → State D → UnitState D → StatementProgress D → D.Statement → NextNeed D.Cell D.Guesses
  next_need opening s state w x = D.need (replay D opening s.history).database state.unit x state.guesses w.areas w.cells

  -- a unit that turns back puts its cells back, the newest first, and keeps its areas
  unfoldable pub before_ticket : SequentialState D → State D → ℕ → UnitState D → StatementProgress D → D.Statement → List D.Statement → Bool → HeldCells D → Transition
  before_ticket opening s u state w x xs true (h ∷ hs) = MovedTo (updated s u state (relocated D s.location h.name (Home h.value)) state.guesses (Some (record w { cells = hs; turning_back = is_nonempty hs })))
  before_ticket opening s u state w x xs turning_back cells = follows_need opening s u state w x xs (next_need opening s state w x)

  -- the step of a unit in mid-statement: with a ticket, or with its statement still to be made
  unfoldable pub in_statement : SequentialState D → State D → ℕ → UnitState D → StatementProgress D → Option ℕ → List D.Statement → Transition
  in_statement opening s u state w (Some t) remaining = MovedTo (after_ticket s u state w (ltb w.linked (length w.cells)) w.cells w.areas)
  in_statement opening s u state w None (x ∷ xs) = before_ticket opening s u state w x xs w.turning_back w.cells
  in_statement opening s u state w None [] = IsIdle

  -- the step of a unit: on with its statement, or the next one begins
  unfoldable pub step_of_unit : SequentialState D → State D → ℕ → UnitState D → Option (StatementProgress D) → List D.Statement → Transition
  step_of_unit opening s u state (Some w) remaining = in_statement opening s u state w w.ticket remaining
  step_of_unit opening s u state None (x ∷ xs) = MovedTo (updated s u state s.location state.guesses (Some (begun D x)))
  step_of_unit opening s u state None [] = IsIdle

  -- idle if there is no such unit
  unfoldable pub step_if_unit : SequentialState D → State D → ℕ → Option (UnitState D) → Transition
  step_if_unit opening s u None = IsIdle
  step_if_unit opening s u (Some state) = step_of_unit opening s u state state.progress state.remaining

  -- one step of unit u
  unfoldable pub step : SequentialState D → State D → ℕ → Transition
  step opening s u = step_if_unit opening s u (unit_at s.units u)

  -- the quit of a unit in mid-statement: idle with a ticket; otherwise all cells go home
  unfoldable pub quit_unless_ticket : State D → ℕ → UnitState D → StatementProgress D → Option ℕ → Transition
  quit_unless_ticket s u state w (Some t) = IsIdle
  quit_unless_ticket s u state w None = MovedTo (updated s u state (all_home D s.location w.cells) state.guesses None)

  -- the quit of a unit, idle between statements
  unfoldable pub quit_of_unit : State D → ℕ → UnitState D → Option (StatementProgress D) → Transition
  quit_of_unit s u state None = IsIdle
  quit_of_unit s u state (Some w) = quit_unless_ticket s u state w w.ticket

  -- idle if there is no such unit
  unfoldable pub quit_if_unit : State D → ℕ → Option (UnitState D) → Transition
  quit_if_unit s u None = IsIdle
  quit_if_unit s u (Some state) = quit_of_unit s u state state.progress

  -- unit u gives back all that it holds, unless its statement has its ticket; the statement is then not begun
  unfoldable pub quit : State D → ℕ → Transition
  quit s u = quit_if_unit s u (unit_at s.units u)

  -- the result of a move
  unfoldable pub transition : SequentialState D → State D → Move → Transition
  transition opening s (Step u) = step opening s u
  transition opening s (Quit u) = quit s u

  -- a move that is blocked or idle changes nothing
  unfoldable pub state_after : State D → Transition → State D
  state_after s (MovedTo t) = t
  state_after s IsBlocked = s
  state_after s IsIdle = s

  -- the state after a list of moves
  unfoldable pub run : SequentialState D → State D → List Move → State D
  run opening s [] = s
  run opening s (m ∷ ms) = run opening (state_after s (transition opening s m)) ms

  -- what is reported of a move
  unfoldable pub result_of : Transition → Stepped
  result_of (MovedTo s) = Moved
  result_of IsBlocked = Blocked
  result_of IsIdle = Idle

  -- the result of each move of a list
  unfoldable pub results : SequentialState D → State D → List Move → List Stepped
  results opening s [] = []
  results opening s (m ∷ ms) = result_of (transition opening s m) ∷ results opening (state_after s (transition opening s m)) ms
