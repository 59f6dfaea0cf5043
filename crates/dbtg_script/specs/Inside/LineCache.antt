-- A line that is read at once.
use Rattle.std.specs.Prelude.{◌≡◌, ℕ, List, Some, None}
use Rattle.dbtg_schema.specs.Lists.{Lists}
use Rattle.dbtg_schema.specs.Lookups.{first}
use Rattle.dbtg_unit.specs.declared.statement.Statement.{Statement}
use Rattle.dbtg_script.specs.StatementFaults.{line_faults}
use Rattle.dbtg_script.specs.Statements.{line_statement}

-- the line has no fault after `count` statements, and says this one
pub record Says (schema : Lists) (count : ℕ) (line : List ℕ) (s : Statement) : Type 0 where
  pub faultless : first (line_faults schema count line) ≡ None
  pub said : line_statement schema line ≡ Some s
