-- The statement that is due in a program, as it is spelled.
-- ls are the lines of the program's text.
use Rattle.std.specs.Prelude.{ℕ, ◌-◌, List, [], map, Option, Some, None, option_map, slice_get, unwrap_or}
use Rattle.dbtg_program.specs.declared.program.Line.{Line}
use Rattle.dbtg_program.specs.declared.program.Program.{Program}
use Rattle.dbtg_program.specs.declared.program.Sentence.{Sentence}
use Rattle.dbtg_program.specs.declared.program.Sentence.TheVariants.{Filled}
use Rattle.dbtg_program.specs.declared.program.Word.{Word}
use Rattle.dbtg_program.specs.Going.{line_at, line_number, said_word}
use Rattle.dbtg_program.specs.Spelling.{words_text}
use Rattle.dbtg_program.specs.States.{ProgramState}

-- the line with this number, from 1
abbrev pub line_of : List (List ℕ) → ℕ → List ℕ
line_of ls n = unwrap_or (slice_get ls (n - 1)) []

-- the words of a statement with fields
abbrev pub filled_words : Sentence → Option (List Word)
filled_words (Filled words) = Some words
filled_words _ = None

-- those of the statement of a line
abbrev pub words_with_fields : Option Line → Option (List Word)
words_with_fields None = None
words_with_fields (Some l) = filled_words l.sentence

-- a statement that is due, as it is spelled: as its line was written, or its words with the literals of its fields' values
abbrev pub spelled : Program → List (List ℕ) → ProgramState → List ℕ
spelled program ls at =
    unwrap_or (option_map (λ words. words_text (map (said_word at) words)) (words_with_fields (line_at program at))) (line_of ls (line_number program at))
