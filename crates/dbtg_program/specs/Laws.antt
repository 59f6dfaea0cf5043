-- Laws of programs.
use Rattle.std.specs.Prelude.{◌≡◌, ℕ, Bool, true, false, ◌&&◌, List, [], ◌∷◌, length, map, Option, Some, None, slice_get}
use Rattle.std.specs.List.{list_all}
use Rattle.dbtg_schema.specs.Lists.{Lists}
use Rattle.dbtg_schema.specs.Sound.{IsSound}
use Rattle.dbtg_schema.specs.Structure.{pictures}
use Rattle.dbtg_schema.specs.declared.shape.Item.{Item}
use Rattle.dbtg_cells.specs.declared.key.DbKey.{DbKey}
use Rattle.dbtg_cells.specs.declared.key.Value.{Value}
use Rattle.dbtg_unit.specs.Database.Statements.Fits.{values_fit}
use Rattle.dbtg_unit.specs.declared.statement.Statement.{Statement}
use Rattle.dbtg_unit.specs.declared.unit.Answer.{Answer}
use Rattle.dbtg_unit.specs.declared.unit.Entry.{Entry}
use Rattle.dbtg_script.specs.declared.fault.Cause.{Cause}
use Rattle.dbtg_script.specs.declared.fault.Cause.TheVariants.{TooGreat}
use Rattle.dbtg_script.specs.StatementFaults.{faults_from}
use Rattle.dbtg_script.specs.StatementGrammar.{statement}
use Rattle.dbtg_program.specs.declared.program.End.TheVariants.{Stop}
use Rattle.dbtg_program.specs.declared.program.Line.{Line}
use Rattle.dbtg_program.specs.declared.program.Program.{Program}
use Rattle.dbtg_program.specs.declared.program.Sentence.TheVariants.{Filled}
use Rattle.dbtg_program.specs.declared.program.Word.{Word}
use Rattle.dbtg_program.specs.Faults.{refusal}
use Rattle.dbtg_program.specs.Going.{Due, due, ended, line_at, next, said_word, state_after, told}
use Rattle.dbtg_program.specs.Reading.{program}
use Rattle.dbtg_program.specs.Scripts.{of_script}
use Rattle.dbtg_program.specs.States.{ProgramState, beginning}
use Rattle.dbtg_program.specs.Values.{can_hold}

-- each field has a value, which its picture holds
abbrev pub are_held : List Item → List Value → Bool
are_held [] [] = true
are_held [] (v ∷ vs) = false
are_held (f ∷ fs) [] = false
are_held (f ∷ fs) (v ∷ vs) = can_hold f.picture v && are_held fs vs

-- the items of an answer, if it has any, have the pictures of the record type that its key names
abbrev pub items_fit : Lists → Option (List Value) → Option DbKey → Bool
items_fit schema (Some items) (Some key) = values_fit (pictures schema key.rtype) items
items_fit schema (Some items) None = true
items_fit schema None key = true

-- the state in which a statement is due, or that of an end
abbrev pub state_of : Due → ProgramState
state_of (due state s) = state
state_of (ended state how) = state

-- the fields of a program that was read hold their values before any sentence; then also where a statement is due or the program ends,
-- and after the answer
pub record FieldsHold (schema : Lists) (p : Program) : Type 0 where
  pub at_first : are_held p.fields (beginning p).values ≡ true
  pub at_next : (state : ProgramState) → are_held p.fields state.values ≡ true → are_held p.fields (state_of (next schema p state)).values ≡ true
  pub after : (state : ProgramState) (s : Statement) (answer : Answer) → are_held p.fields state.values ≡ true → items_fit schema answer.items answer.key ≡ true → are_held p.fields (told p state s answer).values ≡ true

-- this holds of each program that was read
abbrev pub FieldsHoldTheirValues : Type 0
FieldsHoldTheirValues = (schema : Lists) (text : List ℕ) → IsSound schema → FieldsHold schema (program schema text)

-- the fault is that a value does not fit
abbrev pub says_too_great : Cause → Bool
says_too_great TooGreat = true
says_too_great _ = false

-- if the sentence due in a program that was read is a statement with fields, its words with the values of the fields have no fault
-- except that a value does not fit
abbrev pub OnlyAValueDoesNotFit : Type 0
OnlyAValueDoesNotFit =
    (schema : Lists) (text : List ℕ) (state : ProgramState) (l : Line) (words : List Word) → refusal schema text ≡ None → are_held (program schema text).fields state.values ≡ true
    → line_at (program schema text) state ≡ Some l → l.sentence ≡ Filled words → list_all says_too_great (faults_from schema [] statement (map (said_word state) words)) ≡ true

-- this statement is due; where there is none, the program ends by STOP
abbrev pub IsDueOrStop : Option Statement → Due → Type 0
IsDueOrStop (Some s) (due state t) = t ≡ s
IsDueOrStop (Some s) (ended state how) = ⊥
IsDueOrStop None (due state t) = ⊥
IsDueOrStop None (ended state how) = how ≡ Stop

-- after this many entries, whatever their answers are, a script as a program comes to the statement at that place, or to its end behind the last
abbrev pub ScriptsAreMadeInOrder : Type 0
ScriptsAreMadeInOrder = (schema : Lists) (script : List Statement) (entries : List Entry)
    → IsDueOrStop (slice_get script (length entries)) (next schema (of_script script) (state_after schema (of_script script) (beginning (of_script script)) entries))
