-- States without the versions of records: from two that differ only there, statements get the same answers, for ever.
-- k is a key, r a record, e a record that a unit keeps, with the version that is kept of it.
use Rattle.std.specs.Prelude.{ℕ, ◌≡◌, ◌==◌, Bool, List, map, option_map, if◌then◌else◌}
use Rattle.dbtg_schema.specs.Lists.{Lists}
use Rattle.dbtg_schema.specs.Lookups.{some_and}
use Rattle.dbtg_cells.specs.declared.key.DbKey.{DbKey}
use Rattle.dbtg_unit.specs.declared.statement.Statement.{Statement}
use Rattle.dbtg_unit.specs.declared.unit.Entry.{Entry}
use Rattle.dbtg_unit.specs.declared.unit.Unit.{Unit}
use Rattle.dbtg_unit.specs.Database.State.Base.{Database, Record}
use Rattle.dbtg_unit.specs.Database.Laws.Replay.{State, answers, opening_state, replay, state_after}
use Rattle.dbtg_states.specs.Alike.{Unordered, unordered}

-- the record still has the version that is kept of it
abbrev pub is_own : Database → DbKey × ℕ → Bool
is_own db e = some_and (λ r. e.1 == r.version) (db.records e.0)

-- the record at version 1
abbrev pub at_first : Record → Record
at_first r = record { items = r.items; version = 1 }

-- each record at version 1
abbrev pub unversioned_database : Database → Database
unversioned_database db = record db { records = λ k. option_map at_first (db.records k) }

-- what is kept of a record is 1 if the record still has the version that is kept, and 0 otherwise
abbrev pub unversioned_entry : Database → DbKey × ℕ → DbKey × ℕ
unversioned_entry db e = (e.0, if is_own db e then 1 else 0)

abbrev pub unversioned_unit : Database → Unit → Unit
unversioned_unit db unit = record unit { kept = map (unversioned_entry db) unit.kept }

-- a state without versions: only whether a record still has the version that a unit keeps of it
abbrev pub unversioned : State → State
unversioned s = record { database = unversioned_database s.database; units = map (unversioned_unit s.database) s.units }

-- a state without versions, and without the order in which units opened an area
abbrev pub essential : State → Unordered
essential s = unordered (unversioned s)

-- the same statements get the same answers from both states, and lead to states that differ at most there
pub record GoOnAlike (schema : Lists) (capacity : ℕ) (one other : State) (statements : List (ℕ × Statement)) : Type 0 where
  pub answers_are : answers schema capacity one statements ≡ answers schema capacity other statements
  pub alike : essential (state_after schema capacity one statements) ≡ essential (state_after schema capacity other statements)

-- this holds for states of histories that differ at most there, whatever the statements
abbrev pub VersionsAreNoState : Type 0
VersionsAreNoState =
    (schema : Lists) (capacity units : ℕ) (history other : List Entry) (statements : List (ℕ × Statement))
    → essential (replay schema capacity (opening_state schema units) history) ≡ essential (replay schema capacity (opening_state schema units) other)
    → GoOnAlike schema capacity (replay schema capacity (opening_state schema units) history) (replay schema capacity (opening_state schema units) other) statements
