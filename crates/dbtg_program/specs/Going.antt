-- What a program does: the statement that is due, and the state after its answer.
use Rattle.std.specs.Prelude.{◌≡◌, ℕ, zero, suc, ◌+◌, Bool, List, [], ◌∷◌, map, Option, Some, None, ⊤, if◌then◌else◌, slice_get, slice_set, is_none, unwrap_or, option_map, decimal}
use Rattle.dbtg_schema.specs.Lists.{Lists}
use Rattle.dbtg_schema.specs.Lookups.{some_and}
use Rattle.dbtg_schema.specs.Texts.Forms.{labels}
use Rattle.dbtg_cells.specs.declared.key.DbKey.{DbKey}
use Rattle.dbtg_cells.specs.declared.key.Value.{Value}
use Rattle.dbtg_cells.specs.declared.key.Value.TheVariants.{Num, Text}
use Rattle.dbtg_unit.specs.Database.Statements.Codes.{status_code, is_done}
use Rattle.dbtg_unit.specs.declared.statement.Statement as said
use Rattle.dbtg_unit.specs.declared.unit.Answer.{Answer}
use Rattle.dbtg_unit.specs.declared.unit.Entry.{Entry}
use Rattle.dbtg_script.specs.Tokens.{Token, plain, equals, literal}
use Rattle.dbtg_script.specs.StatementGrammar.{fits, statement}
use Rattle.dbtg_script.specs.Reading.{verdict}
use Rattle.dbtg_script.specs.Statements.{statement_of}
use Rattle.dbtg_program.specs.declared.program.Word.{Word}
use Rattle.dbtg_program.specs.declared.program.Word.TheVariants as word
use Rattle.dbtg_program.specs.declared.program.Sentence.{Sentence}
use Rattle.dbtg_program.specs.declared.program.Sentence.TheVariants.{Heading, Statement, Filled, Move, Add, Subtract, GoTo, If, Assert, Stop}
use Rattle.dbtg_program.specs.declared.program.Line.{Line}
use Rattle.dbtg_program.specs.declared.program.Program.{Program}
use Rattle.dbtg_program.specs.declared.program.End.{End}
use Rattle.dbtg_program.specs.declared.program.End.TheVariants as ending
use Rattle.dbtg_program.specs.Values.{added, as_field, can_hold, subtracted}
use Rattle.dbtg_program.specs.Conditions.{field_value, holds, value_of}
use Rattle.dbtg_program.specs.States.{ProgramState, beginning}

-- A STATEMENT IN A STATE

-- the literal of a value
abbrev pub literal_of : Value → Token
literal_of (Num n) = plain (decimal n)
literal_of (Text t) = literal t

-- a word of a statement, a field as the literal of its value
abbrev pub said_word : ProgramState → Word → Token
said_word state (word.Plain t) = plain t
said_word state word.Equals = equals
said_word state (word.Literal t) = literal t
said_word state (word.Field f) = literal_of (field_value state f)

-- the statement that a script's reader would read from these words, if they have no fault
abbrev pub read_words : Lists → List Token → Option said.Statement
read_words schema words = if is_none (verdict schema [] statement words) then Some (statement_of schema (labels fits statement words)) else None

-- ONE SENTENCE

-- the program goes on in a state, makes a statement, or ends
pub data Step : Type 0 where
  goes : ProgramState → Step
  makes : said.Statement → Step
  ends : End → Step

-- the state at the next sentence
abbrev pub onward : ProgramState → ProgramState
onward state = record state { at = state.at + 1 }

-- the picture of a field holds the value
abbrev pub has_room : Program → ℕ → Value → Bool
has_room program f v = some_and (λ field. can_hold field.picture v) (slice_get program.fields f)

-- the field gets the value, if there is one and the field has room for it
abbrev pub put : Program → ProgramState → ℕ → ℕ → Option Value → Step
put program state line f None = ends (ending.Size line)
put program state line f (Some v) = if has_room program f v then goes (record (onward state) { values = slice_set state.values f v }) else ends (ending.Size line)

-- the statement is made, if there is one
abbrev pub made : ℕ → Option said.Statement → Step
made line None = ends (ending.Size line)
made line (Some s) = makes s

-- the effect of a sentence in this line
abbrev pub done : Lists → Program → ProgramState → ℕ → Sentence → Step
done schema program state line Heading = goes (onward state)
done schema program state line (Statement s) = makes s
done schema program state line (Filled words) = made line (read_words schema (map (said_word state) words))
done schema program state line (Move x f) = put program state line f (Some (value_of state x))
done schema program state line (Add x f) = put program state line f (added (value_of state x) (field_value state f))
done schema program state line (Subtract x f) = put program state line f (subtracted (value_of state x) (field_value state f))
done schema program state line (GoTo at) = goes (record state { at = at })
done schema program state line (If condition at) = goes (if holds state condition then record state { at = at } else onward state)
done schema program state line (Assert condition) = if holds state condition then goes (onward state) else ends (ending.Assert line)
done schema program state line Stop = ends ending.Stop

-- the effect of the sentence in this line; the end of the text counts as STOP
abbrev pub at_line : Lists → Program → ProgramState → Option Line → Step
at_line schema program state None = ends ending.Stop
at_line schema program state (Some l) = done schema program state l.number l.sentence

-- the line in which the program is, if it is not at the end of its text
abbrev pub line_at : Program → ProgramState → Option Line
line_at program state = slice_get program.lines state.at

-- UP TO THE NEXT STATEMENT

-- the statement that is due, or how the program ends; and the state in which it is
pub data Due : Type 0 where
  due : ProgramState → said.Statement → Due
  ended : ProgramState → End → Due

-- the result of a step
abbrev pub from_step : Step → ProgramState → (ProgramState → Due) → Due
from_step (goes behind) state further = further behind
from_step (makes s) state further = due state s
from_step (ends e) state further = ended state e

-- the number of the line in which the program is
abbrev pub line_number : Program → ProgramState → ℕ
line_number program state = unwrap_or (option_map (λ l. l.number) (line_at program state)) 0

-- the next statement or end within n sentences; if there is none, the program is astray after the last of them
unfoldable pub within : Lists → Program → ℕ → ℕ → ProgramState → Due
within schema program zero line state = ended state (ending.Astray line)
within schema program (suc n) line state = from_step (at_line schema program state (line_at program state)) state (λ behind. within schema program n (line_number program state) behind)

-- within 100,000 of them
abbrev pub next : Lists → Program → ProgramState → Due
next schema program state = within schema program 100000 0 state

-- THE STATE AFTER AN ANSWER

-- these values in the fields from number k on
abbrev pub placed : List Value → ℕ → List Value → List Value
placed values k [] = values
placed values k (v ∷ vs) = slice_set (placed values (k + 1) vs) k v

-- the items of a record in their fields, of which this is the first
abbrev pub with_record : List Value → Option ℕ → List Value → List Value
with_record values None items = values
with_record values (Some k) items = placed values k (map as_field items)

-- the fields after an answer that has these items and this key
abbrev pub filled : Program → List Value → Option (List Value) → Option DbKey → List Value
filled program values (Some items) (Some key) = with_record values (slice_get program.records key.rtype) items
filled program values (Some items) None = values
filled program values None key = values

-- the state after this answer to the statement that was due; an answer has items if a GET was done
abbrev pub told : Program → ProgramState → said.Statement → Answer → ProgramState
told program state s answer = record {
  at = state.at + 1;
  values = if is_done answer.status then filled program state.values answer.items answer.key else state.values;
  status = status_code s answer.status;
}

-- ENTRIES OF A PROGRAM

-- the state after an entry
abbrev pub after_due : Program → ProgramState → Due → Entry → ProgramState
after_due program state (due at s) e = told program at s e.answer
after_due program state (ended at how) e = state

-- the state after entries
abbrev pub state_after : Lists → Program → ProgramState → List Entry → ProgramState
state_after schema program state [] = state
state_after schema program state (e ∷ es) = state_after schema program (after_due program state (next schema program state) e) es

-- this statement is due
abbrev pub IsDue : Due → said.Statement → Type 0
IsDue (due at s) t = s ≡ t
IsDue (ended at how) t = ⊥

-- each entry's statement is what is due after the answers before it
abbrev pub GoOn : Lists → Program → ProgramState → List Entry → Type 0
GoOn schema program state [] = ⊤
GoOn schema program state (e ∷ es) = IsDue (next schema program state) e.statement × GoOn schema program (after_due program state (next schema program state) e) es

-- these entries are of this program
abbrev pub AreOf : Lists → Program → List Entry → Type 0
AreOf schema program entries = GoOn schema program (beginning program) entries
