-- The trace of a history, as it is printed: what is read from it is the history again.
use Rattle.std.specs.Prelude.{ℕ, List, [], ◌∷◌, ◌++◌, codes, decimal, map}
use Rattle.dbtg_schema.specs.Lists.{Lists}
use Rattle.dbtg_unit.specs.declared.unit.Entry.{Entry}
use Rattle.dbtg_unit.specs.Database.Statements.Codes.{status_code}
use Rattle.dbtg_script.specs.Lines.{statement_lines}
use Rattle.dbtg_script.specs.Printing.Echo.{lines_beside}
use Rattle.dbtg_script.specs.Printing.Texts.{answered_text}

-- the line of an entry, with its statement in this spelling: its unit, the statement, the answer
abbrev pub trace_line : Lists → List ℕ → Entry → List ℕ
trace_line schema statement e =
    decimal e.unit ++ codes ": " ++ statement ++ codes " => " ++ answered_text schema (status_code e.statement e.answer.status) e.answer.key e.answer.items ++ 10 ∷ []

-- a line for each entry
abbrev pub trace_lines : Lists → List (List ℕ) → List Entry → List ℕ
trace_lines schema [] es = []
trace_lines schema (statement ∷ statements) [] = []
trace_lines schema (statement ∷ statements) (e ∷ es) = trace_line schema statement e ++ trace_lines schema statements es

-- the trace of a history, each statement as the texts of the scripts have it
abbrev pub trace_text : Lists → List (List ℕ) → List Entry → List ℕ
trace_text schema texts history = trace_lines schema (lines_beside (map statement_lines texts) [] history) history
