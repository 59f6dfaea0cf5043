-- How an audit goes: one entry after another, each made whole by its unit.
use Rattle.std.specs.Prelude.{◌≡◌, ℕ, ◌<◌, ◌≤◌, true, List, Some, length}
use Rattle.dbtg_schema.specs.Lists.{Lists}
use Rattle.dbtg_unit.specs.declared.unit.Entry.{Entry}
use Rattle.dbtg_unit.specs.Database.Statements.Fits.{fits}
use Rattle.dbtg_unit.specs.Database.Laws.Replay.{answer_to}
use Rattle.dbtg_step.specs.Core.Bare.{Bare}
use Rattle.dbtg_step.specs.Core.Whole.{Making, state_now}

-- at this place of a history the entry has its ticket, its unit is one of this many, and its statement fits
pub record MayStand (schema : Lists) (units place : ℕ) (entry : Entry) : Type 0 where
  pub ticket : entry.ticket ≡ place
  pub numbered : 0 < entry.unit
  pub within : entry.unit ≤ units
  pub fitting : fits schema entry.statement ≡ true

-- the entry is the database's next one
pub record GoesOn (m : Making) (entry : Entry) : Type 0 where
  pub ticket : entry.ticket ≡ length m.history
  pub fitting : fits m.schema entry.statement ≡ true
  pub answer : answer_to m.schema m.capacity (state_now m) entry ≡ Some entry.answer

-- the database with this history
abbrev pub with_history : Bare → List Entry → Making
with_history m history = record { schema = m.schema; capacity = m.capacity; units = length m.units; history = history }
