-- What an answer has, and what a refusal leaves.
use Rattle.std.specs.Prelude.{◌≡◌, ℕ, Bool, true, false, ◌&&◌, is_some}
use Rattle.dbtg_schema.specs.Lists.{Lists}
use Rattle.dbtg_unit.specs.declared.statement.Statement.{Statement}
use Rattle.dbtg_unit.specs.declared.statement.Statement.TheVariants.{Find, Get, Store}
use Rattle.dbtg_unit.specs.declared.unit.Unit.{Unit}
use Rattle.dbtg_unit.specs.declared.unit.Cause.{Cause}
use Rattle.dbtg_unit.specs.declared.unit.Status.TheVariants.{Refused}
use Rattle.dbtg_unit.specs.Database.State.Base.{Database}
use Rattle.dbtg_unit.specs.Database.Statements.Effect.{StatementEffect, effect}
use Rattle.dbtg_unit.specs.Database.Statements.Codes.{is_done}

-- FIND, STORE and GET answer with a key
abbrev pub gives_key : Statement → Bool
gives_key (Find suppress form) = true
gives_key (Store t items suppress) = true
gives_key (Get r) = true
gives_key _ = false

-- GET answers with items
abbrev pub gives_items : Statement → Bool
gives_items (Get r) = true
gives_items _ = false

-- a refusal, whatever its cause, leaves database and unit as they were; a key and items are in the answer exactly if the statement
-- is done and gives them
pub record IsAnswered (db : Database) (unit : Unit) (statement : Statement) (outcome : StatementEffect) : Type 0 where
  pub refusal : (cause : Cause) → outcome.answer.status ≡ Refused cause → (outcome.database ≡ db) × (outcome.unit ≡ unit)
  pub key : is_some outcome.answer.key ≡ (is_done outcome.answer.status && gives_key statement)
  pub items : is_some outcome.answer.items ≡ (is_done outcome.answer.status && gives_items statement)

-- every statement, on every database, is answered as it should be
abbrev pub EachIsAnswered : Type 0
EachIsAnswered = (schema : Lists) (capacity : ℕ) (db : Database) (unit : Unit) (statement : Statement) → IsAnswered db unit statement (effect schema capacity db unit statement)
