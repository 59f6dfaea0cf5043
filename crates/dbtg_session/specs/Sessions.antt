-- A session of the shell: what was typed, and what each line does to it and prints. Each statement is made whole on one database, and its
-- line is appended to the script of its unit.
use Rattle.std.specs.Prelude.{ℕ, ◌≡◌, ◌+◌, ◌-◌, ◌≤◌, ◌<◌, ◌∷◌, ◌++◌, ◌⊎◌, Bool, true, false, IfOk, IfSome, IsSomeAnd, OnErr, List, [], length, map, Option, None, Some, Result, Ok, Err, option_map, slice_get, slice_set, unwrap_or}
use Rattle.dbtg_schema.specs.Lists.{Lists}
use Rattle.dbtg_schema.specs.Lookups.{first}
use Rattle.dbtg_unit.specs.Database.Laws.Replay.{entries_of}
use Rattle.dbtg_unit.specs.declared.statement.Statement.{Statement}
use Rattle.dbtg_unit.specs.declared.unit.Entry.{Entry}
use Rattle.dbtg_step.specs.Core.Whole.{HasMade, Making, state_now}
use Rattle.dbtg_script.specs.declared.limits.TheConstants.{SCRIPT_BYTES}
use Rattle.dbtg_script.specs.Lines.{trimmed}
use Rattle.dbtg_script.specs.StatementFaults.{line_faults, refusal as script_refusal}
use Rattle.dbtg_script.specs.Statements.{line_statement, script}
use Rattle.dbtg_script.specs.declared.fault.Cause.{Cause}
use Rattle.dbtg_script.specs.declared.fault.Cause.TheVariants.{TooMuch}
use Rattle.dbtg_script.specs.Printing.Causes.{cause_number}
use Rattle.dbtg_session.specs.declared.session.Refusal.{Refusal}
use Rattle.dbtg_session.specs.declared.session.Refusal.TheVariants.{Fault, Memory}
use Rattle.dbtg_session.specs.declared.asked.Asked.{Asked}
use Rattle.dbtg_session.specs.declared.asked.Asked.TheVariants as asked
use Rattle.dbtg_session.specs.declared.commands.Reply.{Reply}
use Rattle.dbtg_session.specs.declared.commands.Reply.TheVariants as reply
use Rattle.dbtg_session.specs.declared.commands.TheConstants.{ANSWER_BYTES, UNTOLD}
use Rattle.dbtg_session.specs.Asking.{asked_of, asks_undo, bare_command, behind_spaces, is_unit, turn_after}
use Rattle.dbtg_session.specs.Replies.{IsFaultText, answer_reply, no_unit_text, shown_by, undone_text}
use Rattle.dbtg_refusal.specs.Said.{said_in}
use Rattle.dbtg_explain.specs.Units.{is_count}

-- WHAT WAS TYPED

-- the database with the history of what was made on it, and the text of each unit's script
pub record Typed : Type 0 where
  pub making : Making
  pub texts : List (List ℕ)

-- the script of unit u
abbrev pub text_of : Typed → ℕ → List ℕ
text_of typed u = unwrap_or (slice_get typed.texts (u - 1)) []

-- unit u made the statement of this line, and the line was appended to its script, which has room for it
pub record HasTyped (old : Typed) (u : ℕ) (line : List ℕ) (new : Typed) : Type 0 where
  pub statement : Statement
  pub says : line_statement old.making.schema (trimmed line) ≡ Some statement
  pub made : HasMade old.making u statement new.making
  pub of_unit : u - 1 < length old.texts
  pub room : length (text_of old u) + length line < SCRIPT_BYTES
  pub texts_are : new.texts ≡ slice_set old.texts (u - 1) (text_of old u ++ line ++ 10 ∷ [])

-- after `count` statements the line has no fault, and holds no statement
abbrev pub IsNote : Lists → ℕ → List ℕ → Type 0
IsNote schema count line = (line_statement schema (trimmed line) ≡ None) × (first (line_faults schema count (trimmed line)) ≡ None)

-- the line is such a note of unit u
abbrev pub IsNoteOf : Typed → ℕ → List ℕ → Type 0
IsNoteOf typed u line = IsNote typed.making.schema (length (entries_of u typed.making.history)) line

-- true: the line holds a statement, which was made; false: it holds none, and nothing changed
abbrev pub Takes : Typed → ℕ → List ℕ → Bool → Typed → Type 0
Takes old u line true new = HasTyped old u line new
Takes old u line false new = (new ≡ old) × IsNoteOf old u line

-- true: the last statement was taken back: typing its line again leads to the old session; false: there was none, and nothing changed
abbrev pub Undoes : Typed → Bool → Typed → Type 0
Undoes old true new = (u : ℕ) × (line : List ℕ) × HasTyped new u line old
Undoes old false new = (new ≡ old) × (old.making.history ≡ [])

-- why a line is refused after `count` statements, in a script of `size` bytes: it has this fault, or the script would become too long
abbrev pub RefusesBehind : Refusal → Lists → ℕ → ℕ → List ℕ → Type 0
RefusesBehind Memory schema count size line = Unit {0}
RefusesBehind (Fault cause) schema count size line =
    (first (line_faults schema count (trimmed line)) ≡ Some cause) ⊎ ((cause ≡ TooMuch) × (SCRIPT_BYTES ≤ size + length line))

-- why a line of unit u is refused
abbrev pub RefusesLine : Refusal → Typed → ℕ → List ℕ → Type 0
RefusesLine refusal typed u line =
    RefusesBehind refusal typed.making.schema (length (entries_of u typed.making.history)) (length (text_of typed u)) line

-- a script for each of 1 to 8 units, which is accepted and says the statements that the unit made
pub record HasScripts (typed : Typed) : Type 0 where
  pub counted : is_count typed.making.units ≡ true
  pub many : length typed.texts ≡ typed.making.units
  pub each : (k : ℕ) (text : List ℕ) → slice_get typed.texts k ≡ Some text
      → (script_refusal typed.making.schema text ≡ None) × (script typed.making.schema text ≡ map (λ e. e.statement) (entries_of (k + 1) typed.making.history))

-- WHAT IS REPLIED

-- what is printed of a reply that is a text
abbrev pub printed : Reply → Option (List ℕ)
printed (reply.Text out) = Some out.items
printed reply.Untold = Some UNTOLD.now
printed (reply.Save directory) = None
printed (reply.Load path) = None
printed (reply.Run path) = None
printed reply.Quit = None

-- the reply is a text, of which this is true
abbrev pub IsText : (List ℕ → Type 0) → Reply → Type 0
IsText Is told = IsSomeAnd (printed told) Is

-- the reply is this text, if there is one
abbrev pub Prints : Option (List ℕ) → Reply → Type 0
Prints None told = Unit {0}
Prints (Some text) told = IsText (λ out. out ≡ text) told

-- the last entry of the history, if there is one
abbrev pub last_made : Typed → Option Entry
last_made typed = slice_get typed.making.history (length typed.making.history - 1)

-- this answer; or that there is no room for it, which is said only where it is longer than the room that is found for every answer
abbrev pub Tells : List ℕ → List ℕ → Type 0
Tells answer out = (out ≡ answer) ⊎ ((out ≡ UNTOLD.now) × (ANSWER_BYTES < length answer))

-- the answer of the last statement is told
abbrev pub IsAnswered : Typed → List ℕ → Type 0
IsAnswered typed out = IfSome (last_made typed) (λ e. Tells (answer_reply typed.making.schema e) out)

-- what is in the way of the last statement; nothing if it was done
abbrev pub last_said : Typed → List ℕ
last_said typed = let m = typed.making in unwrap_or (option_map (said_in m.schema m.capacity (state_now m)) (last_made typed)) []

-- WHAT A LINE DOES

-- why this line of unit u makes nothing, and what is printed: there is no such unit; or the line holds no statement, and nothing is
-- printed; or it has a fault
abbrev pub IsUnmade : Typed → ℕ → List ℕ → List ℕ → Type 0
IsUnmade typed u line out =
    ((is_unit typed.making.units u ≡ false) × (out ≡ no_unit_text typed.making.units))
    ⊎ (IsNoteOf typed u line × (out ≡ []))
    ⊎ ((cause : Cause) × RefusesLine (Fault cause) typed u line × IsFaultText typed.making.schema line cause out)

-- a line of unit u: its statement is made and answered, or nothing changes and the reason is printed. Without memory nothing changes
abbrev pub TakesLine : {E : Type 0} → ℕ → Typed → List ℕ → Result Reply E → Typed → Type 0
TakesLine u old line (Ok told) new =
    (HasTyped old u line new × IsText (IsAnswered new) told) ⊎ ((new ≡ old) × IsText (IsUnmade old u line) told)
TakesLine u old line (Err error) new = new ≡ old

-- `.undo`: the last statement is taken back, and the reply says what was answered to it. Without memory nothing changes
abbrev pub TakesBack : {E : Type 0} → Typed → Result Reply E → Typed → Type 0
TakesBack old (Ok told) new = ((undone : Bool) × Undoes old undone new) × IsText (λ out. out ≡ undone_text old.making.schema (last_made old)) told
TakesBack old (Err error) new = new ≡ old

-- a command: `.undo` takes a statement back, and every other command changes nothing
abbrev pub TakesCommand : {E : Type 0} → Bool → Typed → Result Reply E → Typed → Type 0
TakesCommand true old told new = TakesBack old told new
TakesCommand false old told new = new ≡ old

-- what was asked for is done. The unit with the turn makes a statement, if the line names no other; a command that shows something
-- prints just that, where this fault was told
abbrev pub TakesAsked : {E : Type 0} → ℕ → Option ℕ → Typed → Asked → Result Reply E → Typed → Type 0
TakesAsked turn fault old (asked.Command command) told new =
    let bare = bare_command command.now in
    TakesCommand (asks_undo bare) old told new × IfOk told (Prints (shown_by old.making turn fault bare))
TakesAsked turn fault old (asked.Statement line) told new = TakesLine turn old line.now told new
TakesAsked turn fault old (asked.StatementOf unit line) told new = TakesLine unit old line.now told new

-- the fault that `.explain` explains after a line of unit u: none after a statement, the same as before if the line comes to nothing, and
-- otherwise that of the line
abbrev pub NotesLine : ℕ → Typed → Option ℕ → List ℕ → Typed → Option ℕ → Type 0
NotesLine u old fault line new now =
    (HasTyped old u line new × (now ≡ None))
    ⊎ (((is_unit old.making.units u ≡ false) ⊎ IsNoteOf old u line) × (now ≡ fault))
    ⊎ ((cause : Cause) × RefusesLine (Fault cause) old u line × (now ≡ Some (cause_number cause)))

-- after a command: none if a statement was taken back
abbrev pub NotesCommand : Typed → Option ℕ → Typed → Option ℕ → Type 0
NotesCommand old fault new now = (Undoes old true new × (now ≡ None)) ⊎ ((new ≡ old) × (now ≡ fault))

abbrev pub NotesAsked : ℕ → Typed → Option ℕ → Asked → Typed → Option ℕ → Type 0
NotesAsked turn old fault (asked.Command command) new now = NotesCommand old fault new now
NotesAsked turn old fault (asked.Statement line) new now = NotesLine turn old fault line.now new now
NotesAsked turn old fault (asked.StatementOf unit line) new now = NotesLine unit old fault line.now new now

-- what a line asks for is done, the turn goes to the unit that this gives it to, and `.explain` explains what it told. Without memory turn
-- and fault stay as they were
pub record Answers {E : Type 0} (line : List ℕ) (turn : ℕ) (fault : Option ℕ) (old : Typed) (told : Result Reply E) (turn_now : ℕ) (fault_now : Option ℕ) (new : Typed) : Type 0 where
  pub one : Asked
  pub is_read : asked_of line (behind_spaces line) one
  pub is_done : TakesAsked turn fault old one told new
  pub given : IfOk told (λ reply. turn_now ≡ turn_after old.making.units turn one)
  pub noted : IfOk told (λ reply. NotesAsked turn old fault one new fault_now)
  pub kept : OnErr told ((turn_now ≡ turn) × (fault_now ≡ fault))
