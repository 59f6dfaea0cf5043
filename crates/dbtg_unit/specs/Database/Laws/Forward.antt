-- What only goes forward: versions, generations, and keys that were deleted.
use Rattle.std.specs.Prelude.{◌≡◌, ℕ, ◌+◌, ◌≤◌, Bool, true, not, ◌&&◌, nat_le, List, length}
use Rattle.dbtg_schema.specs.Lists.{Lists}
use Rattle.dbtg_cells.specs.declared.key.DbKey.{DbKey}
use Rattle.dbtg_unit.specs.declared.statement.Statement.{Statement}
use Rattle.dbtg_unit.specs.declared.unit.Unit.{Unit}
use Rattle.dbtg_unit.specs.declared.unit.Entry.{Entry}
use Rattle.dbtg_unit.specs.Database.State.Base.{Database, is_live}
use Rattle.dbtg_unit.specs.Database.Statements.Effect.{effect, version_of}
use Rattle.dbtg_unit.specs.Database.Laws.Replay.{State, opening_state, replay}
use Rattle.dbtg_unit.specs.Database.State.Versions.{VersionsUpTo}

-- a deleted key: it is not live, and its number has had its generation
abbrev pub is_deleted : Database → DbKey → Bool
is_deleted db k = not (is_live db k) && nat_le k.generation (db.last k.rtype k.number)

-- no version rises by more than one, no last generation falls, no deleted key becomes live again
pub record GoesForward (db new : Database) : Type 0 where
  pub versions : (k : DbKey) → version_of new k ≤ version_of db k + 1
  pub generations : (t n : ℕ) → db.last t n ≤ new.last t n
  pub deleted : (k : DbKey) → is_deleted db k ≡ true → is_deleted new k ≡ true

-- every statement goes forward from every legal database
abbrev pub EachGoesForward : Type 0
EachGoesForward = (schema : Lists) (capacity : ℕ) (db : Database) (unit : Unit) (statement : Statement) → GoesForward db (effect schema capacity db unit statement).database

-- after a history from the opening database no version is above the number of its entries
abbrev pub VersionsAreBounded : Type 0
VersionsAreBounded = (schema : Lists) (capacity units : ℕ) (history : List Entry) → VersionsUpTo (length history) (replay schema capacity (opening_state schema units) history).database

-- the same over any entries
pub record ReplayGoesForward (schema : Lists) (capacity : ℕ) (state : State) (entries : List Entry) : Type 0 where
  pub generations : (t n : ℕ) → state.database.last t n ≤ (replay schema capacity state entries).database.last t n
  pub deleted : (k : DbKey) → is_deleted state.database k ≡ true → is_deleted (replay schema capacity state entries).database k ≡ true

-- so does every history
abbrev pub EachReplayGoesForward : Type 0
EachReplayGoesForward = (schema : Lists) (capacity : ℕ) (state : State) (entries : List Entry) → ReplayGoesForward schema capacity state entries
