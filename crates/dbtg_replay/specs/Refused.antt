-- What is told of the script or the program that goes first: which of its statements were refused.
-- name says which of the two it is, u is its unit; lines has the line of each entry's statement.
use Rattle.std.specs.Prelude.{ℕ, ◌≡◌, ◌==◌, List, [], ◌∷◌, ◌++◌, None, codes, decimal, if◌then◌else◌, map}
use Rattle.dbtg_schema.specs.Lists.{Lists}
use Rattle.dbtg_unit.specs.Database.Statements.Codes.{status_code}
use Rattle.dbtg_unit.specs.declared.unit.Cause.{Cause}
use Rattle.dbtg_unit.specs.declared.unit.Cause.TheVariants.{NoRoom}
use Rattle.dbtg_unit.specs.declared.unit.Entry.{Entry}
use Rattle.dbtg_unit.specs.declared.unit.Status.{Status}
use Rattle.dbtg_unit.specs.declared.unit.Status.TheVariants.{Done, Refused}
use Rattle.dbtg_step.specs.declared.results.Run.{Run}
use Rattle.dbtg_step.specs.Core.Serial.{SerialRunIs}
use Rattle.dbtg_script.specs.Lines.{statement_lines}
use Rattle.dbtg_script.specs.Printing.Echo.{lines_beside}
use Rattle.dbtg_script.specs.Printing.Texts.{four_digits}
use Rattle.dbtg_script.specs.StatementFaults.{refusal as script_refusal}
use Rattle.dbtg_script.specs.Statements.{script}
use Rattle.dbtg_command.specs.declared.place.TextPlace.{TextPlace}
use Rattle.dbtg_command.specs.declared.place.TextPlace.TheVariants.{Script}
use Rattle.dbtg_command.specs.Sources.{ReadSchema}

-- where no number is free, the capacity
abbrev pub capacity_text : ℕ → Cause → List ℕ
capacity_text capacity NoRoom = codes ", capacity " ++ decimal capacity
capacity_text capacity _ = []

-- the status of a statement, and its line
abbrev pub stated_text : ℕ → List ℕ → List ℕ
stated_text status line = four_digits status ++ 32 ∷ line

-- the beginning of a line
abbrev pub ticket_text : List ℕ → ℕ → List ℕ
ticket_text name ticket = name ++ codes ", ticket " ++ decimal ticket ++ codes ": "

-- the line of a statement with this status; nothing if it was not refused
abbrev pub refused_line : List ℕ → ℕ → Entry → List ℕ → Status → List ℕ
refused_line name capacity e line Done = []
refused_line name capacity e line (Refused cause) =
    ticket_text name e.ticket ++ stated_text (status_code e.statement (Refused cause)) line ++ capacity_text capacity cause ++ 10 ∷ []

-- the lines of the statements of unit u
abbrev pub refused_lines : List ℕ → ℕ → ℕ → List (List ℕ) → List Entry → List ℕ
refused_lines name capacity u [] es = []
refused_lines name capacity u (line ∷ lines) [] = []
refused_lines name capacity u (line ∷ lines) (e ∷ es) = (if e.unit == u then refused_line name capacity e line e.answer.status else []) ++ refused_lines name capacity u lines es

-- the same for a history, each statement as these scripts' texts have it
abbrev pub refusals_text : List ℕ → ℕ → ℕ → List (List ℕ) → List Entry → List ℕ
refusals_text name capacity u texts history = refused_lines name capacity u (lines_beside (map statement_lines texts) [] history) history

-- the refusals of the last script, which makes its statements alone on the opening database
pub record TellsOfFirst (holds : TextPlace → List ℕ → Type 0) (count capacity : ℕ) (out : List ℕ) : Type 0 where
  pub lists : Lists
  pub schema : ReadSchema holds lists
  pub text : List ℕ
  pub held : holds (Script count) text
  pub accepted : script_refusal lists text ≡ None
  pub given : Run
  pub is_run : SerialRunIs lists capacity (script lists text ∷ []) given
  pub is_text : out ≡ refusals_text (codes "first script") capacity 1 (text ∷ []) given.history
