-- Words beside `Reading` that private functions and lemmas use.
use Rattle.std.specs.Prelude.{◌≡◌, ℕ, true, List, Option, None}
use Rattle.dbtg_schema.specs.Lists.{Lists}
use Rattle.dbtg_schema.specs.Lookups.{first}
use Rattle.dbtg_script.specs.declared.fault.Cause.TheVariants as cause
use Rattle.dbtg_script.specs.declared.fault.Fault.{Fault}
use Rattle.dbtg_script.specs.declared.fault.LineFault.{LineFault}
use Rattle.dbtg_script.specs.declared.fault.LineFault.TheVariants as line
use Rattle.dbtg_script.specs.declared.fault.ScriptFault.{ScriptFault}
use Rattle.dbtg_script.specs.declared.fault.ScriptFault.TheVariants as script
use Rattle.dbtg_script.specs.Lines.{is_statement}
use Rattle.dbtg_script.specs.Reading.{faults_at_once}
use Rattle.dbtg_script.specs.StatementFaults.{lines_faults}

-- the first fault of lines after `count` statements; the first line has this number
unfoldable pub lines_verdict : Lists → ℕ → ℕ → List (List ℕ) → Option Fault
lines_verdict schema count number ls = first (lines_faults schema count number ls)

-- the fault of a line, with the number of the line
abbrev pub at_line : ℕ → LineFault → ScriptFault
at_line number line.Memory = script.Memory
at_line number (line.Refused cause) = script.Refused number cause

-- the line holds a statement, and no fault of it is found before a word is kept
pub record MayTakeMemory (schema : Lists) (count : ℕ) (line : List ℕ) : Type 0 where
  pub holds_one : is_statement line ≡ true
  pub goes_on : first (faults_at_once schema count line) ≡ None
