-- A database in memory on which each statement is made whole.
use Rattle.std.specs.Prelude.{ℕ, ◌≡◌, ◌++◌, List, [], ◌∷◌, Some, length}
use Rattle.dbtg_schema.specs.Lists.{Lists}
use Rattle.dbtg_unit.specs.declared.statement.Statement.{Statement}
use Rattle.dbtg_unit.specs.declared.unit.Entry.{Entry}
use Rattle.dbtg_unit.specs.Database.Statements.Effect.{StatementEffect}
use Rattle.dbtg_unit.specs.Database.State.Image.{image_of}
use Rattle.dbtg_unit.specs.Database.Laws.Replay.{IsHistoryOf, State, after, opening_state, effect_of_unit, replay}
use Rattle.dbtg_step.specs.declared.results.Run.{Run}

-- WHAT A CALLER SEES

-- its schema and capacity, how many units it has, and the statements that they made
pub record Making : Type 0 where
  pub schema : Lists
  pub capacity : ℕ
  pub units : ℕ
  pub history : List Entry

-- the sequential database, with its units, to which these statements lead
abbrev pub state_now : Making → State
state_now m = replay m.schema m.capacity (opening_state m.schema m.units) m.history

-- statement x of unit u is made whole: its effect on the database is the outcome, and with the outcome's answer it is the next entry of the history
pub record HasMade (old : Making) (u : ℕ) (x : Statement) (new : Making) : Type 0 where
  pub outcome : StatementEffect
  pub outcome_is : effect_of_unit old.schema old.capacity (state_now old) u x ≡ Some outcome
  pub new_is : new ≡ record old { history = old.history ++ record { ticket = length old.history; unit = u; statement = x; answer = outcome.answer } ∷ [] }
  pub state_is : state_now new ≡ after (state_now old) u outcome

-- what it hands out when it is taken apart: a history of the sequential database, and the image and the units to which this history leads
pub record IsMadeRun (m : Making) (given : Run) : Type 0 where
  pub results_are : given.results ≡ []
  pub history_is : given.history ≡ m.history
  pub history_of : IsHistoryOf m.schema m.capacity m.units m.history
  pub image_is : given.image ≡ image_of m.schema m.capacity (state_now m).database
  pub units_are : given.units ≡ (state_now m).units
