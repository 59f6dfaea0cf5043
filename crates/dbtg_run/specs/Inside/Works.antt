-- A unit at work in a database.
use Rattle.std.specs.Prelude.{◌≡◌, Bool, true, false}
use Rattle.dbtg_unit.specs.declared.statement.Statement.{Statement}
use Rattle.dbtg_unit.specs.Hands.Needs.{is_stale}
use Rattle.dbtg_step.specs.Inside.Events.{HaveRings}
use Rattle.dbtg_run.specs.Inside.LatchRule.{IsReal, database_after}
use Rattle.dbtg_run.specs.declared.database.Database.{Database}
use Rattle.dbtg_run.specs.declared.work.Work.{Work}
use Rattle.dbtg_run.specs.Inside.Posed.{IsOurs}

-- the unit is of this database: it was made with the same, and its seat is at the same table
pub record Belongs (db : Database) (w : Work) : Type 0 where
  pub about : w.about ≡ db.about
  pub table : w.seat.table_id ≡ db.board.shared.table_id

-- the same unit, whatever it holds
pub record IsSameUnit (old new : Work) : Type 0 where
  pub about : new.about ≡ old.about
  pub unit : new.unit ≡ old.unit
  pub journal : new.journal ≡ old.journal
  pub table : new.seat.table_id ≡ old.seat.table_id

-- the unit is one of the database, what it holds is what some database has, and each owner that it guesses has a ring
pub record IsAtWork (w : Work) : Type 0 where
  pub ours : IsOurs w.about w.unit
  pub real : IsReal w.about w.unit w.journal.items w.held
  pub rings : HaveRings w.about.schema.value w.about.capacity w.held.guesses

-- in a database of one unit: either the need was met and the guesses stayed, or they were stale and are now right
abbrev pub KnowsBetter : Statement → Work → Work → Bool → Type 0
KnowsBetter x old new true = new.held.guesses ≡ old.held.guesses
KnowsBetter x old new false =
    (is_stale old.about.schema.value old.about.capacity (database_after old.about old.journal.items) old.unit old.held.guesses x ≡ true)
    × (is_stale old.about.schema.value old.about.capacity (database_after old.about old.journal.items) old.unit new.held.guesses x ≡ false)
