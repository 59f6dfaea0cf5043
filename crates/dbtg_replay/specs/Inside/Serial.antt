-- Statements that are made and whose answers are printed at once.
use Rattle.std.specs.Prelude.{ℕ, ◌≡◌, ◌++◌, List}
use Rattle.dbtg_schema.specs.Lists.{Lists}
use Rattle.dbtg_unit.specs.declared.statement.Statement.{Statement}
use Rattle.dbtg_unit.specs.declared.unit.Entry.{Entry}
use Rattle.dbtg_unit.specs.Database.Laws.Replaying.{statements_of}
use Rattle.dbtg_step.specs.Core.Bare.{Bare, Continues}
use Rattle.dbtg_script.specs.Printing.Texts.{answers_text}

-- just these statements are made, in their order, each by its unit, and their answers follow the text
pub record HasPrinted (lists : Lists) (old : Bare) (text : List ℕ) (statements : List (ℕ × Statement)) (new : Bare) (longer : List ℕ) : Type 0 where
  pub entries : List Entry
  pub continues : Continues old entries new
  pub statements_are : statements_of entries ≡ statements
  pub text_is : longer ≡ text ++ answers_text lists entries
