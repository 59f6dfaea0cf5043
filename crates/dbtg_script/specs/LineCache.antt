-- Lines that were read before, each with the place of its statement.
use Rattle.std.specs.Prelude.{◌≡◌, ℕ, ◌<◌, true, List, [], ◌∷◌, Option, Some, None, slice_get}
use Rattle.dbtg_schema.specs.Lists.{Lists}
use Rattle.dbtg_schema.specs.Lookups.{first}
use Rattle.dbtg_unit.specs.declared.limits.TheConstants.{MOST_STATEMENTS}
use Rattle.dbtg_unit.specs.declared.statement.Statement.{Statement}
use Rattle.dbtg_script.specs.declared.line_cache.Seen.{Seen}
use Rattle.dbtg_script.specs.Lines.{is_statement}
use Rattle.dbtg_script.specs.StatementFaults.{line_faults}
use Rattle.dbtg_script.specs.Statements.{line_statement}

-- the line has no fault if there is room for its statement, which is the one at this place
pub record IsRead (schema : Lists) (ss : List Statement) (line : List ℕ) (at : ℕ) : Type 0 where
  pub holds_one : is_statement line ≡ true
  pub faultless : (count : ℕ) → count < MOST_STATEMENTS → first (line_faults schema count line) ≡ None
  pub said : slice_get ss at ≡ line_statement schema line

-- nothing, or a line that is kept and was read in this way
abbrev pub IsReadAt : Lists → List Statement → Option Seen → Type 0
IsReadAt schema ss None = Unit {0}
IsReadAt schema ss (Some s) = IsRead schema ss s.line.now s.at

-- all lines that are kept were read in this way
abbrev pub IsCached : Lists → List Statement → List (Option Seen) → Type 0
IsCached schema ss [] = Unit {0}
IsCached schema ss (p ∷ ps) = IsReadAt schema ss p × IsCached schema ss ps
