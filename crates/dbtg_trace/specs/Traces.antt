-- What a trace says: for each line with a statement who asked what, and what was answered.
use Rattle.std.specs.Prelude.{ℕ, ◌+◌, List, [], ◌∷◌, ◌++◌, Option, Some, None, if◌then◌else◌, option_and_then, option_map}
use Rattle.dbtg_schema.specs.Lists.{Lists}
use Rattle.dbtg_script.specs.Lines.{is_statement, lines, trimmed}
use Rattle.dbtg_script.specs.Statements.{line_statement}
use Rattle.dbtg_trace.specs.declared.traced.Traced.{Traced}
use Rattle.dbtg_trace.specs.Parts.{halves, unit_named}
use Rattle.dbtg_trace.specs.Answers.{answer_in}

-- what the line with this number says by its halves, if both say something
abbrev pub entry_by : Lists → ℕ → ℕ → List ℕ × List ℕ → Option Traced
entry_by schema number unit h =
    option_and_then (λ s. option_map (λ said. record { line = number; unit = unit; statement = s; said = said }) (answer_in schema h.1)) (line_statement schema (trimmed h.0))

-- what the line with this number says, if each of its parts says something
abbrev pub entry_of : Lists → ℕ → ℕ → List ℕ → Option Traced
entry_of schema units number line = option_and_then (λ unit. option_and_then (entry_by schema number unit) (halves line)) (unit_named units line)

-- the entry as a list, which is empty if there is none
abbrev pub listed : Option Traced → List Traced
listed None = []
listed (Some t) = t ∷ []

-- what the line with this number says; nothing if it holds no statement
abbrev pub line_entry : Lists → ℕ → ℕ → List ℕ → List Traced
line_entry schema units number line = if is_statement line then listed (entry_of schema units number line) else []

-- what lines say; the first line has this number
abbrev pub entries_of : Lists → ℕ → ℕ → List (List ℕ) → List Traced
entries_of schema units number [] = []
entries_of schema units number (l ∷ ls) = line_entry schema units number (trimmed l) ++ entries_of schema units (number + 1) ls

-- what a trace says
abbrev pub trace : Lists → ℕ → List ℕ → List Traced
trace schema units text = entries_of schema units 1 (lines text)
