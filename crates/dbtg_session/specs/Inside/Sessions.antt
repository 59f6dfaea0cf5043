-- What a session of the shell keeps: its scripts and their lines, what a line does to them, and the page of a refusal.
use Rattle.std.specs.Prelude.{ℕ, ◌≡◌, ◌+◌, ◌≤◌, ◌<◌, ◌∷◌, ◌++◌, Bool, true, false, List, [], length, map, None, reverse, Some, slice_get}
use Rattle.dbtg_schema.specs.Lists.{Lists}
use Rattle.dbtg_schema.specs.Lookups.{first}
use Rattle.dbtg_schema.specs.Sound.{IsSound}
use Rattle.dbtg_unit.specs.Database.Laws.Replay.{IsHistoryOf, entries_of}
use Rattle.dbtg_unit.specs.declared.statement.Statement.{Statement}
use Rattle.dbtg_unit.specs.declared.unit.Entry.{Entry}
use Rattle.dbtg_step.specs.Core.Whole.{HasMade, Making}
use Rattle.dbtg_script.specs.declared.limits.TheConstants.{SCRIPT_BYTES}
use Rattle.dbtg_script.specs.Lines.{closes, trimmed}
use Rattle.dbtg_script.specs.StatementFaults.{line_faults, refusal as script_refusal}
use Rattle.dbtg_script.specs.Statements.{line_statement, script}
use Rattle.dbtg_script.specs.declared.fault.Cause.TheVariants.{TooMuch}
use Rattle.dbtg_session.specs.declared.session.Refusal.{Refusal}
use Rattle.dbtg_session.specs.declared.session.Refusal.TheVariants.{Fault, Memory}
use Rattle.dbtg_session.specs.declared.session.Script.{Script}
use Rattle.dbtg_session.specs.Sessions.{IsNote}
use Rattle.dbtg_explain.specs.Units.{is_count}

-- the script is accepted, and says the statements of these entries, each on a line of its own
pub record IsScriptOf (schema : Lists) (text : List ℕ) (count : ℕ) (entries : List Entry) : Type 0 where
  pub accepted : script_refusal schema text ≡ None
  pub says : script schema text ≡ map (λ e. e.statement) entries
  pub closed : closes true text ≡ true
  pub short : length text ≤ SCRIPT_BYTES
  pub count_is : count ≡ length entries

-- the last line of a text, which begins at this byte, says the statement of an entry
pub record IsLastLine (schema : Lists) (text : List ℕ) (begin : ℕ) (e : Entry) (front line : List ℕ) : Type 0 where
  pub text_is : text ≡ front ++ line ++ 10 ∷ []
  pub begins : begin ≡ length front
  pub says : line_statement schema (trimmed line) ≡ Some e.statement

-- where its lines begin, and the entries whose statements they say, both from the last one back: what comes before a line is the
-- script of the entries before its own
abbrev pub HasGrown : Lists → List ℕ → List ℕ → List Entry → Type 0
HasGrown schema text [] [] = text ≡ []
HasGrown schema text (b ∷ bs) (e ∷ es) =
    (front : List ℕ) × (line : List ℕ) × IsLastLine schema text b e front line × IsScriptOf schema front (length bs) (reverse es) × HasGrown schema front bs es
HasGrown schema text [] (e ∷ es) = ⊥
HasGrown schema text (b ∷ bs) [] = ⊥

-- the script of these entries, which has grown by a line with each
pub record IsOwnScript (schema : Lists) (one : Script) (entries : List Entry) : Type 0 where
  pub is_script : IsScriptOf schema one.text.items (length one.begins.items) entries
  pub grown : HasGrown schema one.text.items (reverse one.begins.items) (reverse entries)

-- a sound schema, and a script for each of 1 to 8 units
pub record IsSession (schema : Lists) (capacity : ℕ) (making : Making) (scripts : List Script) : Type 0 where
  pub sound : IsSound schema
  pub schema_is : making.schema ≡ schema
  pub capacity_is : making.capacity ≡ capacity
  pub many : length scripts ≡ making.units
  pub counted : is_count making.units ≡ true
  pub each : (k : ℕ) (one : Script) → slice_get scripts k ≡ Some one → IsOwnScript schema one (entries_of (k + 1) making.history)

-- a history begins with these entries
abbrev pub BeginsHistory : Lists → ℕ → ℕ → List Entry → Type 0
BeginsHistory schema capacity units entries = (rest : List Entry) × IsHistoryOf schema capacity units (entries ++ rest)

-- the line is appended to the script, which says one statement more
pub record HasEntered (old : Script) (line : List ℕ) (new : Script) : Type 0 where
  pub text : new.text.items ≡ old.text.items ++ line ++ 10 ∷ []
  pub begins : new.begins.items ≡ old.begins.items ++ length old.text.items ∷ []

-- the script is as it was
pub record IsAsBefore (old new : Script) : Type 0 where
  pub text : new.text.items ≡ old.text.items
  pub begins : new.begins.items ≡ old.begins.items

-- the statement of a line that has no fault after the script is made whole by unit u, and the line is entered
pub record HasMadeLine (schema : Lists) (old : Making) (one : Script) (u : ℕ) (line : List ℕ) (new : Making) (next : Script) : Type 0 where
  pub statement : Statement
  pub says : line_statement schema (trimmed line) ≡ Some statement
  pub fine : first (line_faults schema (length one.begins.items) (trimmed line)) ≡ None
  pub room : length one.text.items + length line < SCRIPT_BYTES
  pub made : HasMade old u statement new
  pub entered : HasEntered one line next

-- true: the line holds a statement, which was made; false: it holds none, and nothing changed
abbrev pub MakesLine : Lists → Making → Script → ℕ → List ℕ → Bool → Making → Script → Type 0
MakesLine schema old one u line true new next = HasMadeLine schema old one u line new next
MakesLine schema old one u line false new next = (new ≡ old) × IsAsBefore one next × IsNote schema (length one.begins.items) line

-- the script has no room for a line that would bring it to `size` bytes, unless memory ran out
abbrev pub HasNoRoom : Refusal → ℕ → Type 0
HasNoRoom Memory size = Unit {0}
HasNoRoom (Fault cause) size = (cause ≡ TooMuch) × (SCRIPT_BYTES ≤ size)
