-- The refusal, as the reader reaches it from left to right.
use Rattle.std.specs.Prelude.{◌≡◌, ℕ, ◌+◌, not, List, [], ◌∷◌, ◌++◌, map, Option, Some, None, is_none, if◌then◌else◌}
use Rattle.dbtg_schema.specs.Lists.{Lists}
use Rattle.dbtg_script.specs.declared.fault.Cause.TheVariants as cause
use Rattle.dbtg_script.specs.Lines.{is_statement, lines, trimmed}
use Rattle.dbtg_script.specs.Reading as script
use Rattle.dbtg_trace.specs.declared.fault.Fault.{Fault}
use Rattle.dbtg_trace.specs.declared.fault.TraceCause.{TraceCause}
use Rattle.dbtg_trace.specs.declared.fault.TraceCause.TheVariants.{AsInScript, NoUnit, NoArrow}
use Rattle.dbtg_trace.specs.declared.fault.TraceFault.{TraceFault}
use Rattle.dbtg_trace.specs.declared.fault.TraceFault.TheVariants.{Memory, Refused}
use Rattle.dbtg_trace.specs.Faults.{too_long, when, whole_faults}
use Rattle.dbtg_trace.specs.Parts.{halves, unit_named}

-- the faults of what should be a statement that are found before a word of it is kept
abbrev pub part_faults_at_once : Lists → List ℕ → List TraceCause
part_faults_at_once schema part =
    when (not (is_statement (trimmed part))) (AsInScript cause.NoStatementWord) ++ map AsInScript (script.faults_at_once schema 0 (trimmed part))

-- the same after a unit
abbrev pub halves_faults_at_once : Lists → Option (List ℕ × List ℕ) → List TraceCause
halves_faults_at_once schema None = NoArrow ∷ []
halves_faults_at_once schema (Some h) = part_faults_at_once schema h.0

-- the same for a line that holds a statement
abbrev pub entry_faults_at_once : Lists → ℕ → List ℕ → List TraceCause
entry_faults_at_once schema units line = when (is_none (unit_named units line)) NoUnit ++ halves_faults_at_once schema (halves line)

-- the same for any line after `count` statements
abbrev pub line_faults_at_once : Lists → ℕ → ℕ → List ℕ → List TraceCause
line_faults_at_once schema units count line = whole_faults count line ++ (if is_statement line then entry_faults_at_once schema units line else [])

-- the faults of lines that are found before a statement is kept; the first line has this number
abbrev pub lines_faults_at_once : Lists → ℕ → ℕ → List (List ℕ) → List Fault
lines_faults_at_once schema units number [] = []
lines_faults_at_once schema units number (l ∷ ls) =
    map (λ c. record { line = number; cause = c }) (line_faults_at_once schema units 0 (trimmed l)) ++ (if is_statement (trimmed l) then [] else lines_faults_at_once schema units (number + 1) ls)

-- the faults of a trace that are found before a statement is kept
abbrev pub faults_at_once : Lists → ℕ → List ℕ → List Fault
faults_at_once schema units text = too_long text ++ lines_faults_at_once schema units 1 (lines text)

-- the trace is refused with this fault, unless memory ran out
abbrev pub RefusesTrace : TraceFault → Option Fault → Type 0
RefusesTrace Memory v = Unit {0}
RefusesTrace (Refused line cause) v = v ≡ Some (record { line = line; cause = cause })
