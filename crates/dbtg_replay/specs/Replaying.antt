-- What `replay` prints.
-- text, scripts, moves and turns are bytes, lists is the schema that a text says, given is the result of a run; first says whether the
-- last of the scripts is made before all others.
use Rattle.std.specs.Prelude.{ℕ, ◌≡◌, ◌≤◌, ◌++◌, Bool, true, false, List, [], ⊤, drop, map, length}
use Rattle.dbtg_schema.specs.Lists.{Lists}
use Rattle.dbtg_schema.specs.Sound.{IsSound}
use Rattle.dbtg_unit.specs.declared.statement.Statement.{Statement}
use Rattle.dbtg_step.specs.declared.results.Run.{Run}
use Rattle.dbtg_unit.specs.declared.moves.Move.{Move}
use Rattle.dbtg_unit.specs.declared.limits.TheConstants.{LAST_UNIT}
use Rattle.dbtg_step.specs.Machine.Headline.{RunIs}
use Rattle.dbtg_step.specs.Core.Audit.{MayBeHistory}
use Rattle.dbtg_step.specs.Core.Serial.{SerialRunIs}
use Rattle.dbtg_step.specs.Core.Turns.{IsRunByTurns}
use Rattle.dbtg_script.specs.Printing.Echo.{echoed_run_text}
use Rattle.dbtg_script.specs.Statements.{script}
use Rattle.dbtg_script.specs.Printing.Texts.{moves_text, run_text, text_behind}
use Rattle.dbtg_refusal.specs.Said.{said_of_history}
use Rattle.dbtg_trace.specs.Printing.{trace_text}
use Rattle.dbtg_command.specs.declared.order.Order.{Order}
use Rattle.dbtg_command.specs.declared.order.Order.TheVariants.{Moves, Serial, Turns}
use Rattle.dbtg_command.specs.declared.order.OrderKind.{OrderKind}
use Rattle.dbtg_command.specs.declared.place.TextPlace.{TextPlace}
use Rattle.dbtg_command.specs.Refusals.{AcceptsOrder, AcceptsTexts, is_count, moves_in, schema_in, turns_in}
use Rattle.dbtg_command.specs.Sources.{Texts}
use Rattle.dbtg_replay.specs.declared.replay.AnswerForm.{AnswerForm}
use Rattle.dbtg_replay.specs.declared.replay.AnswerForm.TheVariants.{Plain, Echo, Explained, Trace}
use Rattle.dbtg_replay.specs.Ordering.{AreFirstMoves, first_turns, serial_turns}

-- the run by these turns, whatever moves they stand for
abbrev pub RunByTurnsIs : Lists → ℕ → List (List Statement) → List ℕ → Run → Type 0
RunByTurnsIs lists capacity scripts turns given = (moves : List Move) × IsRunByTurns lists capacity scripts turns moves given

-- the run of one script after another; if one is made first, it is a run by turns that say so
abbrev pub InTurnIs : Bool → Lists → ℕ → List (List Statement) → Run → Type 0
InTurnIs false lists capacity scripts given = SerialRunIs lists capacity scripts given
InTurnIs true lists capacity scripts given = RunByTurnsIs lists capacity scripts (first_turns true scripts ++ serial_turns 1 scripts) given

-- the run of these moves; if one script is made first, that of its moves and then these, with the results of these alone
pub record MovedIs (first : Bool) (lists : Lists) (capacity : ℕ) (scripts : List (List Statement)) (moves : List Move) (given : Run) : Type 0 where
  pub before : List Move
  pub are_first : AreFirstMoves first lists capacity scripts before
  pub whole : Run
  pub is_run : RunIs lists capacity scripts (before ++ moves) whole
  pub given_is : given ≡ record whole { results = drop (length before) whole.results }

-- the run of these moves, by these turns, or, without either, of one script after another
abbrev pub Gives : Bool → Lists → ℕ → List (List Statement) → Order (List ℕ) → Run → Type 0
Gives first lists capacity scripts Serial given = InTurnIs first lists capacity scripts given
Gives first lists capacity scripts (Moves text) given = MovedIs first lists capacity scripts (moves_in text) given
Gives first lists capacity scripts (Turns text) given = RunByTurnsIs lists capacity scripts (first_turns first scripts ++ turns_in text) given

-- answers, image and units
abbrev pub given_text : Lists → Run → List ℕ
given_text lists given = run_text lists given.history given.image.records given.image.lists given.image.next given.image.usage given.units

-- the same; or with the statement of each answer beside it, as the scripts' texts have it, and if refusals are explained, with what is
-- said of each below it; or with the trace in place of the answers
abbrev pub shown_text : Lists → AnswerForm → List (List ℕ) → Run → List ℕ
shown_text lists Plain texts given = given_text lists given
shown_text lists Echo texts given = echoed_run_text lists texts [] given.history given.image.records given.image.lists given.image.next given.image.usage given.units
shown_text lists (Explained capacity) texts given =
    echoed_run_text lists texts (said_of_history lists capacity (length given.units) given.history) given.history given.image.records given.image.lists given.image.next given.image.usage given.units
shown_text lists Trace texts given = text_behind (trace_text lists texts given.history) lists given.image.records given.image.lists given.image.next given.image.usage given.units

-- what is explained is made again, so it must be possible to make it
abbrev pub CanShow : Lists → AnswerForm → Run → Type 0
CanShow lists (Explained capacity) given = IsSound lists × (length given.units ≤ LAST_UNIT) × MayBeHistory lists (length given.units) given.history
CanShow lists form given = ⊤

-- with moves, the line of their results comes first
abbrev pub printed : Lists → AnswerForm → List (List ℕ) → Order (List ℕ) → Run → List ℕ
printed lists form texts Serial given = shown_text lists form texts given
printed lists form texts (Moves moves) given = moves_text given.results ++ shown_text lists form texts given
printed lists form texts (Turns turns) given = shown_text lists form texts given

-- the text is the output of such a run, as it is printed
pub record IsPrinted (Is : Run → Type 0) (print : Run → List ℕ) (out : List ℕ) : Type 0 where
  pub given : Run
  pub is_run : Is given
  pub is_text : out ≡ print given

-- the text is the output of the run of these statements, as it is printed
abbrev pub IsPrintedRun : Bool → Lists → ℕ → List (List Statement) → AnswerForm → List (List ℕ) → Order (List ℕ) → List ℕ → Type 0
IsPrintedRun first lists capacity scripts form texts order out = IsPrinted (Gives first lists capacity scripts order) (printed lists form texts order) out

-- 1 to 8 scripts, nothing is refused, and the text is what is printed of the run of what the texts say: the answers alone, with their
-- statements beside them, or as a trace
pub record IsShownReplay (first : Bool) (form : AnswerForm) (text : List ℕ) (scripts : List (List ℕ)) (order : Order (List ℕ)) (capacity : ℕ) (out : List ℕ) : Type 0 where
  pub count : is_count (length scripts) ≡ true
  pub texts : AcceptsTexts text scripts
  pub order_too : AcceptsOrder order
  pub run : IsPrintedRun first (schema_in text) capacity (map (script (schema_in text)) scripts) form scripts order out

-- the same for the answers alone, if no script is made first
abbrev pub IsReplay : List ℕ → List (List ℕ) → Order (List ℕ) → ℕ → List ℕ → Type 0
IsReplay text scripts order capacity out = IsShownReplay false Plain text scripts order capacity out

-- what `replay` prints of texts that are held
abbrev pub ReplaysHeld : (TextPlace → List ℕ → Type 0) → ℕ → OrderKind → Bool → AnswerForm → ℕ → List ℕ → Type 0
ReplaysHeld holds count which first form capacity out = (texts : Texts holds count which) × IsShownReplay first form texts.schema texts.scripts texts.order capacity out
