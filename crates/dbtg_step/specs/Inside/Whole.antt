-- How a database on which statements are made whole keeps its cells.
use Rattle.std.specs.Prelude.{ℕ, ◌≡◌, ◌++◌, Bool, true, false, List}
use Rattle.dbtg_schema.specs.Lists.{Lists}
use Rattle.dbtg_unit.specs.declared.statement.Statement.{Statement}
use Rattle.dbtg_unit.specs.declared.statement.Statement.TheVariants.{Modify, Remove}
use Rattle.dbtg_unit.specs.declared.unit.Answer.{Answer}
use Rattle.dbtg_unit.specs.declared.unit.Unit.{Unit}
use Rattle.dbtg_unit.specs.Database.State.Base.{Database}
use Rattle.dbtg_unit.specs.Database.Statements.Effect.{effect}
use Rattle.dbtg_unit.specs.Hands.Hands.{Hands}
use Rattle.dbtg_unit.specs.Hands.Local.{AllAgree}
use Rattle.dbtg_unit.specs.Hands.Making.{IsReady}
use Rattle.dbtg_unit.specs.Database.Laws.Replaying.{statements_of}
use Rattle.dbtg_step.specs.Core.Whole.{Making}

-- just these statements are made, in their order, each by its unit
pub record HasMadeAll (old : Making) (statements : List (ℕ × Statement)) (new : Making) : Type 0 where
  pub new_is : new ≡ record old { history = new.history }
  pub statements_are : statements_of new.history ≡ statements_of old.history ++ statements

-- the statement goes by owners that a unit guesses; all others find theirs among the currents
abbrev pub goes_by_guesses : Statement → Bool
goes_by_guesses (Remove s) = true
goes_by_guesses (Modify t changes) = true
goes_by_guesses _ = false

-- the guesses are such that the statement needs nothing more; the rest is as it was
pub record IsGuessed (schema : Lists) (capacity : ℕ) (unit : Unit) (x : Statement) (old new : Hands) : Type 0 where
  pub rest : new ≡ record old { guesses = new.guesses }
  pub ready : IsReady schema capacity unit new x

-- the statement's effect on the database: its answer, its unit, and the held cells
pub record IsEffect (schema : Lists) (capacity : ℕ) (db : Database) (x : Statement) (unit unit' : Unit) (new : Hands) (answer : Answer) : Type 0 where
  pub answer_is : answer ≡ (effect schema capacity db unit x).answer
  pub unit_is : unit' ≡ (effect schema capacity db unit x).unit
  pub cells : AllAgree schema capacity (effect schema capacity db unit x).database new.cells
