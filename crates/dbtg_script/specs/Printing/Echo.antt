-- Answers with their statements beside them, and below an answer what is noted of it. A script is given as the lines that hold its statements.
use Rattle.std.specs.Prelude.{ℕ, ◌+◌, ◌-◌, ◌&&◌, nat_le, nat_lt, List, [], ◌∷◌, ◌++◌, codes, length, map, replicate, unwrap_or, slice_get, if◌then◌else◌}
use Rattle.dbtg_schema.specs.Lists.{Lists}
use Rattle.dbtg_cells.specs.declared.key.DbKey.{DbKey}
use Rattle.dbtg_cells.specs.declared.key.Owner.{Owner}
use Rattle.dbtg_cells.specs.declared.key.Value.{Value}
use Rattle.dbtg_cells.specs.declared.usage.Mode.{Mode}
use Rattle.dbtg_unit.specs.Database.Laws.Replay.{entries_of}
use Rattle.dbtg_unit.specs.declared.unit.Entry.{Entry}
use Rattle.dbtg_unit.specs.declared.unit.Unit as unit
use Rattle.dbtg_script.specs.Lines.{statement_lines}
use Rattle.dbtg_script.specs.Printing.Texts.{answer_text, text_behind}

-- the lines of unit u's script
abbrev pub lines_for : List (List (List ℕ)) → ℕ → List (List ℕ)
lines_for scripts u = unwrap_or (slice_get scripts (u - 1)) []

-- the line beside an answer that comes after these: its unit made the statements among them, and this is the next one of its script
abbrev pub line_beside : List (List (List ℕ)) → List Entry → Entry → List ℕ
line_beside scripts before e = unwrap_or (slice_get (lines_for scripts e.unit) (length (entries_of e.unit before))) []

-- the lines beside the answers that come after these
abbrev pub lines_beside : List (List (List ℕ)) → List Entry → List Entry → List (List ℕ)
lines_beside scripts before [] = []
lines_beside scripts before (e ∷ es) = line_beside scripts before e ∷ lines_beside scripts (before ++ e ∷ []) es

-- the column has room for this line too, unless it has more than 60 bytes
abbrev pub wider : ℕ → List ℕ → ℕ
wider width line = if nat_lt width (length line) && nat_le (length line) 60 then length line else width

-- a column of this width, made as wide as the widest of these lines that has at most 60 bytes
abbrev pub widened : ℕ → List (List ℕ) → ℕ
widened width [] = width
widened width (line ∷ lines) = widened (wider width line) lines

-- padded with spaces to the column's width, and three more
abbrev pub padded : ℕ → List ℕ → List ℕ
padded width line = line ++ replicate (width - length line + 3) 32

-- the note of a ticket; none beyond the last
abbrev pub note_of : List (List ℕ) → ℕ → List ℕ
note_of notes ticket = unwrap_or (slice_get notes ticket) []

-- a note on a line of its own, further in; no line where there is none
abbrev pub note_line : List ℕ → List ℕ
note_line [] = []
note_line (c ∷ cs) = codes "    " ++ (c ∷ cs) ++ codes "\n"

-- a line for each answer: its statement, and the answer; below it the note of its ticket
abbrev pub rows_text : Lists → ℕ → List (List ℕ) → List (List ℕ) → List Entry → List ℕ
rows_text schema width notes [] es = []
rows_text schema width notes (line ∷ lines) [] = []
rows_text schema width notes (line ∷ lines) (e ∷ es) = padded width line ++ answer_text schema e ++ note_line (note_of notes e.ticket) ++ rows_text schema width notes lines es

-- the same for the lines beside these answers
abbrev pub table_text : Lists → List (List ℕ) → List (List ℕ) → List Entry → List ℕ
table_text schema notes lines history = rows_text schema (widened 0 lines) notes lines history

-- the answers of a history with their statements, as the texts of the scripts have them, and with notes by ticket
abbrev pub echo_text : Lists → List (List ℕ) → List (List ℕ) → List Entry → List ℕ
echo_text schema texts notes history = table_text schema notes (lines_beside (map statement_lines texts) [] history) history

-- the answers with their statements and notes, and the rest of what a run gives
abbrev pub echoed_run_text : Lists → List (List ℕ) → List (List ℕ) → List Entry → List (DbKey × List Value) → List (List (Owner × List DbKey)) → List ℕ → List (List (ℕ × Mode)) → List unit.Unit → List ℕ
echoed_run_text schema texts notes history records lists next usage units = text_behind (echo_text schema texts notes history) schema records lists next usage units
