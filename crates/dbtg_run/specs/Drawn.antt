-- What a ticket does to a unit.
use Rattle.std.specs.Prelude.{◌≡◌, ◌<◌, List, [], ◌∷◌, ◌++◌, length, Some}
use Rattle.dbtg_unit.specs.declared.statement.Statement.{Statement}
use Rattle.dbtg_unit.specs.declared.unit.Answer.{Answer}
use Rattle.dbtg_unit.specs.declared.unit.Entry.{Entry}
use Rattle.dbtg_unit.specs.declared.unit.Unit.{Unit}
use Rattle.dbtg_unit.specs.Database.Laws.Replay.{IsHistoryOf, entries_of, opening_state, replay as replay_entries, unit_of}
use Rattle.dbtg_run.specs.declared.view.About.{About}
use Rattle.dbtg_run.specs.Views.{Has}
use Rattle.dbtg_run.specs.Entries.{entry}

-- the unit's journal has one entry more, of this statement and answer, with a ticket above its earlier ones; and a history of
-- the sequential database that ends with this entry gives the unit as it is, and has just the journal of the unit's entries
pub record IsDone (about : About) (old new : List Entry) (unit : Unit) (x : Statement) (answer : Answer) : Type 0 where
  pub before : List Entry
  pub journal : new ≡ old ++ entry (length before) unit.number x answer ∷ []
  pub above : (e : Entry) → Has e old → e.ticket < length before
  pub history : IsHistoryOf about.schema.value about.capacity about.units (before ++ entry (length before) unit.number x answer ∷ [])
  pub unit_is : unit_of (replay_entries about.schema.value about.capacity (opening_state about.schema.value about.units) (before ++ entry (length before) unit.number x answer ∷ [])) unit.number ≡ Some unit
  pub entries : entries_of unit.number (before ++ entry (length before) unit.number x answer ∷ []) ≡ new
