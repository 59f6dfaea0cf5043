-- Where a meeting is. Two states count as one if they agree in everything that later statements depend on, and that is printed: in all but
-- the order in which units opened an area, what does not count of programs, and the versions of records. Of these it counts only whether a
-- record still has the version that a unit keeps of it.
-- m is a meeting, u a unit, o and p are orders.
use Rattle.std.specs.Prelude.{ℕ, ◌≡◌, ◌+◌, ◌<◌, List, [], ◌∷◌, Contains, length}
use Rattle.dbtg_unit.specs.declared.unit.Entry.{Entry}
use Rattle.dbtg_unit.specs.Database.Laws.Replay.{State, opening_state, replay}
use Rattle.dbtg_program.specs.declared.program.Program.{Program}
use Rattle.dbtg_program.specs.Going.{Due}
use Rattle.dbtg_going.specs.Turns.{comes}
use Rattle.dbtg_states.specs.Alike.{Unordered}
use Rattle.dbtg_explore.specs.Counted.{counted_each}
use Rattle.dbtg_explore.specs.Orders.{IsOrder, Meeting, history_of}
use Rattle.dbtg_explore.specs.Pairwise.{ArePairwise}
use Rattle.dbtg_explore.specs.Versions.{essential, unversioned}

-- the database with its units, and for each program the statement that is due in its state, or its end
pub record MeetingState : Type 0 where
  pub sequential : State
  pub programs : List Due

-- the same for these programs, the first of them unit u's
abbrev pub comes_of_each : Meeting → List Entry → ℕ → List Program → List Due
comes_of_each m history u [] = []
comes_of_each m history u (program ∷ programs) = comes m.schema program u history ∷ comes_of_each m history (u + 1) programs

-- the sequential database to which a history leads
abbrev pub sequential_after : Meeting → List Entry → State
sequential_after m history = replay m.schema m.capacity (opening_state m.schema (length m.programs)) history

-- the state after a history
abbrev pub state_after : Meeting → List Entry → MeetingState
state_after m history = record { sequential = sequential_after m history; programs = comes_of_each m history 1 m.programs }

-- the state after an order
abbrev pub state_of : Meeting → List ℕ → MeetingState
state_of m order = state_after m (history_of m order)

-- WHAT TELLS STATES APART

-- the same without versions
abbrev pub without_versions : MeetingState → MeetingState
without_versions state = record { sequential = unversioned state.sequential; programs = state.programs }

-- a state without versions, and without the order in which units opened an area; and what counts of the programs
pub record Essence : Type 0 where
  pub sequential : Unordered
  pub programs : List Due

abbrev pub essence : Meeting → MeetingState → Essence
essence m state = record { sequential = essential state.sequential; programs = counted_each m.programs state.programs }

-- the essence of the state after an order
abbrev pub essence_of : Meeting → List ℕ → Essence
essence_of m order = essence m (state_of m order)

-- HOW MANY THERE ARE

-- two orders lead to different states
abbrev pub LeadApart : Meeting → List ℕ → List ℕ → Type 0
LeadApart m o p = essence_of m o ≡ essence_of m p → ⊥

-- orders, no two of which lead to the same state
pub record AreApart (m : Meeting) (orders : List (List ℕ)) : Type 0 where
  pub are_orders : (o : List ℕ) → Contains orders o → IsOrder m o
  pub apart : ArePairwise (LeadApart m) orders

-- orders lead to n states: there are n orders, exactly one for each state
pub record CountsStates (m : Meeting) (n : ℕ) : Type 0 where
  pub orders : List (List ℕ)
  pub are_apart : AreApart m orders
  pub all : (o : List ℕ) → IsOrder m o → (p : List ℕ) × Contains orders p × (essence_of m p ≡ essence_of m o)
  pub count : length orders ≡ n

-- there are more than n
pub record HasMoreStates (m : Meeting) (n : ℕ) : Type 0 where
  pub orders : List (List ℕ)
  pub are_apart : AreApart m orders
  pub more : n < length orders
