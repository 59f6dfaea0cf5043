-- Words beside `Faults` and `Reading` that private functions and lemmas use.
use Rattle.std.specs.Prelude.{◌≡◌, ℕ, Bool, List, [], ◌∷◌, ◌++◌, map, Option, Some, if◌then◌else◌, option_map, slice_get}
use Rattle.std.specs.List.{flat_map}
use Rattle.dbtg_schema.specs.Lists.{Lists}
use Rattle.dbtg_schema.specs.Lookups.{first}
use Rattle.dbtg_script.specs.declared.fault.LineFault.{LineFault as ScriptFault}
use Rattle.dbtg_script.specs.declared.fault.LineFault.TheVariants as script_fault
use Rattle.dbtg_script.specs.Lines.{is_statement}
use Rattle.dbtg_script.specs.Reading.{verdict}
use Rattle.dbtg_script.specs.StatementGrammar as script
use Rattle.dbtg_script.specs.Tokens.{Token}
use Rattle.dbtg_program.specs.declared.fault.Fault.{Fault}
use Rattle.dbtg_program.specs.declared.fault.LineFault.{LineFault}
use Rattle.dbtg_program.specs.declared.fault.LineFault.TheVariants as line
use Rattle.dbtg_program.specs.declared.fault.ProgramCause.{ProgramCause}
use Rattle.dbtg_program.specs.declared.fault.ProgramCause.TheVariants.{AsInScript}
use Rattle.dbtg_program.specs.declared.fault.ProgramFault.{ProgramFault}
use Rattle.dbtg_program.specs.declared.fault.ProgramFault.TheVariants as program
use Rattle.dbtg_program.specs.declared.program.Line.{Line}
use Rattle.dbtg_program.specs.declared.program.Word.{Word}
use Rattle.dbtg_program.specs.Going.{said_word}
use Rattle.dbtg_program.specs.States.{beginning_with}
use Rattle.dbtg_program.specs.Sentences.{Holding, Text, fields_in, sentences_of}
use Rattle.dbtg_program.specs.Faults.{lines_faults, sentence_faults, statement_faults, unknown_word, whole_faults}
use Rattle.dbtg_program.specs.Reading.{line_of}

-- the words of a statement as a script would have them at the beginning of the program
abbrev pub at_first : Text → List Word → List Token
at_first text words = map (said_word (beginning_with (fields_in text))) words

-- the first fault of these words of a statement, once its field words are known
unfoldable pub words_verdict : Text → List Word → Option ProgramCause
words_verdict text words = option_map AsInScript (verdict text.schema [] script.statement (at_first text words))

-- the first field word that names no field
unfoldable pub unknown_verdict : Text → List (Token × Bool) → Option ProgramCause
unknown_verdict text ms = first (flat_map (unknown_word text) ms)

-- the first fault of a statement
unfoldable pub statement_verdict : Text → List Token → Option ProgramCause
statement_verdict text ws = first (statement_faults text ws)

-- the first fault of sentence number `at`
unfoldable pub sentence_verdict : Text → ℕ → Holding → Option ProgramCause
sentence_verdict text at l = first (sentence_faults text at l)

-- the first fault of a line as a whole
unfoldable pub whole_verdict : ℕ → List ℕ → Option ProgramCause
whole_verdict at line = first (whole_faults at line)

-- the first fault of a line, if this is its sentence or it holds none
unfoldable pub line_verdict : Text → ℕ → List ℕ → Holding → Option ProgramCause
line_verdict text at line l = first (whole_faults at line ++ (if is_statement line then sentence_faults text at l else []))

-- the first fault of lines
unfoldable pub lines_verdict : Text → ℕ → ℕ → List (List ℕ) → Option Fault
lines_verdict text at number ls = first (lines_faults text at number ls)

-- a text of these bytes
abbrev pub text_of : Lists → List ℕ → Text
text_of schema bytes = record { schema = schema; sentences = sentences_of bytes }

-- sentence number `at` is this one
abbrev pub Stands : Text → ℕ → Holding → Type 0
Stands text at l = slice_get text.sentences at ≡ Some l

-- the line of a program that a sentence says
unfoldable pub sentence_line : Text → Holding → Line
sentence_line = line_of

-- the same for a line of its text, if it holds that sentence
abbrev pub line_said : Text → List ℕ → Holding → List Line
line_said text line l = if is_statement line then sentence_line text l ∷ [] else []

-- the line is refused with this fault, unless memory ran out
abbrev pub Refuses : LineFault → Option ProgramCause → Type 0
Refuses line.Memory v = Unit {0}
Refuses (line.Refused cause) v = v ≡ Some cause

-- a fault of a script's line, as one of a program's
abbrev pub as_in_script : ScriptFault → LineFault
as_in_script script_fault.Memory = line.Memory
as_in_script (script_fault.Refused cause) = line.Refused (AsInScript cause)

-- the fault of a line, with the number of the line
abbrev pub at_line : ℕ → LineFault → ProgramFault
at_line number line.Memory = program.Memory
at_line number (line.Refused cause) = program.Refused number cause
