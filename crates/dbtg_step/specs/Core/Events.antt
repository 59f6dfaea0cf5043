-- When a step takes memory.
use Rattle.std.specs.Prelude.{ℕ, ◌≡◌, ◌≢◌, ◌<◌, true, List, [], ◌∷◌, Option, Some, None, length}
use Rattle.dbtg_schema.specs.Lists.{Lists}
use Rattle.dbtg_cells.specs.declared.key.Owner.{Owner}
use Rattle.dbtg_unit.specs.declared.statement.Statement.{Statement}
use Rattle.dbtg_step.specs.Machine.SequentialDatabase.{StaleGuesses, unit_at}
use Rattle.dbtg_step.specs.Machine.Machine.{StatementProgress, UnitState, State, SequentialState}
use Rattle.dbtg_step.specs.Machine.Step.{next_need, step, MovedTo}
use Rattle.dbtg_step.specs.Machine.Network.{network}

-- WHAT A STEP GIVES

-- unit u is in mid-statement without a ticket, and takes what it needs
pub record IsBeforeTicket {schema : Lists} {capacity : ℕ} (s : State (network schema capacity)) (u : ℕ) : Type 0 where
  pub state : UnitState (network schema capacity)
  pub found : unit_at s.units u ≡ Some state
  pub w : StatementProgress (network schema capacity)
  pub progress : state.progress ≡ Some w
  pub ticket : w.ticket ≡ None
  pub turned : w.turning_back ≡ true → w.cells ≡ []
  pub left : 0 < length state.remaining

-- a step takes memory only if it is an event in which the unit takes something or draws its ticket: a turn back takes none
pub record WantsMemory {schema : Lists} {capacity : ℕ} (opening : SequentialState (network schema capacity)) (s : State (network schema capacity)) (u : ℕ) : Type 0 where
  pub before : IsBeforeTicket s u
  pub after : State (network schema capacity)
  pub event : step (network schema capacity) opening s u ≡ MovedTo after
  pub onward : (x : Statement) (xs : List Statement) (others : List (Option Owner)) → before.state.remaining ≡ x ∷ xs → next_need (network schema capacity) opening s before.state before.w x ≢ StaleGuesses others
