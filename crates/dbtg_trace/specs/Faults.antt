-- Every fault of a trace: line by line, in a line from left to right.
use Rattle.std.specs.Prelude.{ℕ, ◌+◌, Bool, not, nat_le, nat_lt, List, [], ◌∷◌, ◌++◌, length, map, Option, Some, None, is_none, if◌then◌else◌}
use Rattle.dbtg_schema.specs.Lists.{Lists}
use Rattle.dbtg_schema.specs.Lookups.{first}
use Rattle.dbtg_script.specs.declared.fault.Cause.TheVariants as cause
use Rattle.dbtg_script.specs.Lines.{is_allowed, is_printable, is_statement, lines, trimmed}
use Rattle.dbtg_script.specs.Printing.Causes as script_cause
use Rattle.dbtg_script.specs.StatementFaults as script
use Rattle.dbtg_trace.specs.declared.fault.Fault.{Fault}
use Rattle.dbtg_trace.specs.declared.fault.TraceCause.{TraceCause}
use Rattle.dbtg_trace.specs.declared.fault.TraceCause.TheVariants.{AsInScript, NoUnit, NoArrow, NoAnswer}
use Rattle.dbtg_trace.specs.Parts.{halves, unit_named}
use Rattle.dbtg_trace.specs.Answers.{answer_in}

-- the number by which a cause is printed
abbrev pub cause_number : TraceCause → ℕ
cause_number (AsInScript c) = script_cause.cause_number c
cause_number NoUnit = 31
cause_number NoArrow = 32
cause_number NoAnswer = 33

-- the fault, if the test holds
abbrev pub when : Bool → TraceCause → List TraceCause
when b c = if b then c ∷ [] else []

-- the faults of what should be a statement: that it is none, then those that it has as a line of a script
abbrev pub part_faults : Lists → List ℕ → List TraceCause
part_faults schema part =
    when (not (is_statement (trimmed part))) (AsInScript cause.NoStatementWord) ++ map AsInScript (script.line_faults schema 0 (trimmed part))

-- the faults after a unit: no arrow, then the statement's, then those of the answer
abbrev pub halves_faults : Lists → Option (List ℕ × List ℕ) → List TraceCause
halves_faults schema None = NoArrow ∷ []
halves_faults schema (Some h) = part_faults schema h.0 ++ when (is_none (answer_in schema h.1)) NoAnswer

-- the faults of a line that holds a statement, from left to right
abbrev pub entry_faults : Lists → ℕ → List ℕ → List TraceCause
entry_faults schema units line = when (is_none (unit_named units line)) NoUnit ++ halves_faults schema (halves line)

-- the faults of a line as a whole, after `count` statements; for a line without a statement those that it has in a script
abbrev pub whole_faults : ℕ → List ℕ → List TraceCause
whole_faults count line =
    if is_statement line then when (nat_le 524280 count) (AsInScript cause.TooMuch) ++ when (not (is_printable line)) (AsInScript cause.LineNotAllowed)
    else when (not (is_allowed line)) (AsInScript cause.LineNotAllowed)

-- the faults of a line after `count` statements
abbrev pub line_faults : Lists → ℕ → ℕ → List ℕ → List TraceCause
line_faults schema units count line = whole_faults count line ++ (if is_statement line then entry_faults schema units line else [])

-- the faults of lines after `count` statements; the first line has this number
abbrev pub lines_faults : Lists → ℕ → ℕ → ℕ → List (List ℕ) → List Fault
lines_faults schema units count number [] = []
lines_faults schema units count number (l ∷ ls) =
    map (λ c. record { line = number; cause = c }) (line_faults schema units count (trimmed l)) ++ lines_faults schema units (script.count_after count (trimmed l)) (number + 1) ls

-- more than 67,108,864 bytes
abbrev pub too_long : List ℕ → List Fault
too_long text = if nat_lt 67108864 (length text) then record { line = 1; cause = AsInScript cause.TooMuch } ∷ [] else []

-- every fault of a trace
abbrev pub faults : Lists → ℕ → List ℕ → List Fault
faults schema units text = too_long text ++ lines_faults schema units 0 1 (lines text)

-- the first fault of a trace, which is the refusal
abbrev pub refusal : Lists → ℕ → List ℕ → Option Fault
refusal schema units text = first (faults schema units text)
