-- What `threads` prints.
-- lists is the schema that a text says; script k + 1 is that of the unit with number k + 1; first says whether the last of the scripts
-- is made before all others, form is what comes before the image, and texts are those of the scripts.
use Rattle.std.specs.Prelude.{ℕ, ◌≡◌, ◌+◌, Bool, true, List, ◌++◌, length, map, None, Some, slice_get}
use Rattle.dbtg_schema.specs.Lists.{Lists}
use Rattle.dbtg_unit.specs.declared.statement.Statement.{Statement}
use Rattle.dbtg_unit.specs.declared.unit.Entry.{Entry}
use Rattle.dbtg_unit.specs.declared.unit.Unit.{Unit}
use Rattle.dbtg_step.specs.declared.results.Run.{Run}
use Rattle.dbtg_unit.specs.Database.State.Image.{Image}
use Rattle.dbtg_unit.specs.Database.Laws.Replay.{entries_of}
use Rattle.dbtg_step.specs.Core.Audit.{LeadsTo}
use Rattle.dbtg_script.specs.Statements.{script}
use Rattle.dbtg_script.specs.Turns.{turns_refusal}
use Rattle.dbtg_script.specs.Printing.WordTexts.{turns_text}
use Rattle.dbtg_command.specs.declared.order.Order.TheVariants.{Turns}
use Rattle.dbtg_command.specs.declared.order.OrderKind.TheVariants as kind
use Rattle.dbtg_command.specs.declared.place.TextPlace.{TextPlace}
use Rattle.dbtg_command.specs.Refusals.{AcceptsTexts, is_count, schema_in}
use Rattle.dbtg_command.specs.Sources.{Texts}
use Rattle.dbtg_replay.specs.Ordering.{first_turns}
use Rattle.dbtg_replay.specs.declared.replay.AnswerForm.{AnswerForm}
use Rattle.dbtg_replay.specs.Replaying.{IsShownReplay, shown_text}
use Rattle.dbtg_running.specs.Threading.{audit_line}

-- a history of the sequential database in which each unit makes its script, statement by statement, and the image and the units to
-- which it leads
pub record IsHistoryOfAll (lists : Lists) (capacity : ℕ) (scripts : List (List Statement)) (history : List Entry) (image : Image) (units : List Unit) : Type 0 where
  pub leads : LeadsTo lists capacity (length scripts) history image units
  pub own : (k : ℕ) (script : List Statement) → slice_get scripts k ≡ Some script → map (λ e. e.statement) (entries_of (k + 1) history) ≡ script

-- the text is what is shown of such a history, its image and its units, and the line of the audit. The units that made its entries
-- are in turn that of the script that is made first, once for each of its statements, and then those of the turns
pub record IsPrintedOnThreads (first : Bool) (form : AnswerForm) (lists : Lists) (capacity : ℕ) (scripts : List (List Statement)) (texts : List (List ℕ)) (out turns : List ℕ) : Type 0 where
  pub given : Run
  pub is_history : IsHistoryOfAll lists capacity scripts given.history given.image given.units
  pub is_text : out ≡ shown_text lists form texts given ++ audit_line
  pub behind : List ℕ
  pub in_turn : map (λ e. e.unit) given.history ≡ first_turns first scripts ++ behind
  pub are_turns : turns ≡ turns_text behind

-- 1 to 8 scripts, nothing is refused, and the text is what is printed of running on threads what the texts say. The turns are
-- accepted, and `replay` by them prints the same except for the last line
pub record IsThreads (first : Bool) (form : AnswerForm) (text : List ℕ) (scripts : List (List ℕ)) (capacity : ℕ) (out turns : List ℕ) : Type 0 where
  pub count : is_count (length scripts) ≡ true
  pub texts : AcceptsTexts text scripts
  pub run : IsPrintedOnThreads first form (schema_in text) capacity (map (script (schema_in text)) scripts) scripts out turns
  pub turns_too : turns_refusal turns ≡ None
  pub again : (printed : List ℕ) → IsShownReplay first form text scripts (Turns turns) capacity printed → out ≡ printed ++ audit_line

-- what `threads` prints of texts that are held, and the turns that it saves
abbrev pub ThreadsHeld : (TextPlace → List ℕ → Type 0) → ℕ → Bool → AnswerForm → ℕ → List ℕ → List ℕ → Type 0
ThreadsHeld holds count first form capacity out turns = (texts : Texts holds count kind.Serial) × IsThreads first form texts.schema texts.scripts capacity out turns
