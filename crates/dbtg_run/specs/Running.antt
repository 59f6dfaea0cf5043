-- Units that make scripts on threads.
use Rattle.std.specs.Prelude.{◌≡◌, ◌⊎◌, ℕ, ◌+◌, ◌<◌, ◌≤◌, List, [], ◌++◌, length, map, Some, get_or}
use Rattle.dbtg_unit.specs.declared.limits.TheConstants.{MOST_STATEMENTS}
use Rattle.dbtg_unit.specs.declared.statement.Statement.{Statement}
use Rattle.dbtg_unit.specs.declared.unit.Entry.{Entry}
use Rattle.dbtg_unit.specs.Database.Laws.Replay.{IsHistoryOf, entries_of, opening_state, replay as replay_entries, unit_of}
use Rattle.dbtg_run.specs.declared.database.Database.{Database}
use Rattle.dbtg_run.specs.declared.settled.Settled.{Settled}
use Rattle.dbtg_run.specs.Settling.{IsSettled}
use Rattle.dbtg_run.specs.UnitView.{UnitView}

-- a history of the sequential database gives the unit as it is, and has just the journal of the unit's entries
pub record IsRecorded (u : UnitView) : Type 0 where
  pub log : List Entry
  pub history : IsHistoryOf u.about.schema.value u.about.capacity u.about.units log
  pub unit_is : unit_of (replay_entries u.about.schema.value u.about.capacity (opening_state u.about.schema.value u.about.units) log) u.unit.number ≡ Some u.unit
  pub entries : entries_of u.unit.number log ≡ u.journal

-- the unit made the first statements of the script, one after the other: its journal has one entry more for each, of this unit
-- and this statement. If it made none, it is as it was
pub record Ran (script : List Statement) (before after : UnitView) : Type 0 where
  pub made : List Entry
  pub left : List Statement
  pub script_is : script ≡ map (λ (e : Entry). e.statement) made ++ left
  pub journal : after.journal ≡ before.journal ++ made
  pub own : map (λ (e : Entry). e.unit) made ≡ map (λ (e : Entry). before.unit.number) made
  pub about : after.about ≡ before.about
  pub table : after.table ≡ before.table
  pub number : after.unit.number ≡ before.unit.number
  pub unmade : made ≡ [] → after ≡ before
  pub recorded : (after ≡ before) ⊎ IsRecorded after

-- all statements of the script are made, or the journal has no room for another entry
abbrev pub IsWhole : List Statement → UnitView → UnitView → Type 0
IsWhole script before after = (length after.journal ≡ length before.journal + length script) ⊎ (MOST_STATEMENTS ≤ length after.journal)

-- the same for each script, or what else is made, the unit to which it was given, and that unit afterwards; all three are at one place
pub record AtEach {S : Type 0} (P : S → UnitView → UnitView → Type 0) (scripts : List S) (before after : List UnitView) : Type 0 where
  pub count : length after ≡ length before
  pub each : (k : ℕ) (s : S) (u v : UnitView) → k < length before → P (get_or scripts k s) (get_or before k u) (get_or after k v)

-- each unit made the first statements of its script
abbrev pub HaveRun : List (List Statement) → List UnitView → List UnitView → Type 0
HaveRun = AtEach Ran

-- each unit made its whole script, or has no room in its journal for more
abbrev pub HaveMade : List (List Statement) → List UnitView → List UnitView → Type 0
HaveMade = AtEach (λ s u v. Ran s u v × IsWhole s u v)

-- the units made their scripts, and the database is settled with them as they then were
pub record IsRun (db : Database) (scripts : List (List Statement)) (units : List UnitView) (settled : Settled) : Type 0 where
  pub after : List UnitView
  pub made : HaveMade scripts units after
  pub ends : IsSettled db after settled
