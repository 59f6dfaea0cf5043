-- What `turns` prints: the moves that turns stand for.
-- text, scripts and turns are bytes, lists the schema that a text says.
use Rattle.std.specs.Prelude.{ℕ, ◌≡◌, ◌<◌, ◌++◌, ◌⊎◌, true, List, None, map, length}
use Rattle.dbtg_schema.specs.Lists.{Lists}
use Rattle.dbtg_unit.specs.declared.moves.Move.{Move}
use Rattle.dbtg_unit.specs.declared.moves.Stepped.{Stepped}
use Rattle.dbtg_unit.specs.declared.statement.Statement.{Statement}
use Rattle.dbtg_script.specs.declared.limits.TheConstants.{MOST_MOVES}
use Rattle.dbtg_script.specs.Moves.{refusal as moves_refusal}
use Rattle.dbtg_script.specs.Statements.{script}
use Rattle.dbtg_script.specs.Printing.Texts.{moves_text}
use Rattle.dbtg_script.specs.Turns.{turns_refusal}
use Rattle.dbtg_script.specs.Printing.WordTexts.{moves_words_text}
use Rattle.dbtg_command.specs.declared.fault.Fault.{Fault}
use Rattle.dbtg_command.specs.declared.fault.Fault.TheVariants as fault
use Rattle.dbtg_command.specs.declared.order.Order.TheVariants.{Moves, Turns}
use Rattle.dbtg_command.specs.declared.order.OrderKind.TheVariants as kind
use Rattle.dbtg_command.specs.declared.place.TextPlace.{TextPlace}
use Rattle.dbtg_command.specs.Refusals.{AcceptsTexts, is_count, moves_in, schema_in, turns_in}
use Rattle.dbtg_command.specs.Sources.{ReadSchema, ReadScripts, ReadTurns, Texts, ToldOfRun}
use Rattle.dbtg_replay.specs.Ordering.{StandFor}
use Rattle.dbtg_replay.specs.Replaying.{IsReplay}

-- the text is accepted as one of moves, and says those for which the turns stand, as moves are printed
pub record AreMovesOf (lists : Lists) (capacity : ℕ) (scripts : List (List Statement)) (turns : List ℕ) (out : List ℕ) : Type 0 where
  pub accepted : moves_refusal out ≡ None
  pub stand : StandFor lists capacity scripts turns (moves_in out)
  pub is_text : out ≡ moves_words_text (moves_in out)

-- the turns stand for more moves than a text of moves may have, and the fault says so, unless memory ran out
abbrev pub AreMoreMoves : Lists → ℕ → List (List Statement) → List ℕ → Fault → Type 0
AreMoreMoves lists capacity scripts turns fault.Memory = Unit {0}
AreMoreMoves lists capacity scripts turns fault.MovesOver = (moves : List Move) × StandFor lists capacity scripts turns moves × (MOST_MOVES < length moves)
AreMoreMoves lists capacity scripts turns (fault.Schema line cause) = ⊥
AreMoreMoves lists capacity scripts turns (fault.Script n line cause) = ⊥
AreMoreMoves lists capacity scripts turns (fault.Program n line cause) = ⊥
AreMoreMoves lists capacity scripts turns (fault.Moves word cause) = ⊥
AreMoreMoves lists capacity scripts turns (fault.Turns word cause) = ⊥
AreMoreMoves lists capacity scripts turns (fault.Trace line cause) = ⊥
AreMoreMoves lists capacity scripts turns (fault.Unreadable path) = ⊥
AreMoreMoves lists capacity scripts turns (fault.StatesOver limit) = ⊥
AreMoreMoves lists capacity scripts turns fault.ScriptCount = ⊥

-- 1 to 8 scripts, nothing is refused, and the text says the moves for which the turns stand. So `replay` of these moves prints,
-- after its line of moves, just what `replay` by the turns prints
pub record IsMovesText (text : List ℕ) (scripts : List (List ℕ)) (turns : List ℕ) (capacity : ℕ) (out : List ℕ) : Type 0 where
  pub count : is_count (length scripts) ≡ true
  pub texts : AcceptsTexts text scripts
  pub turns_too : turns_refusal turns ≡ None
  pub moves : AreMovesOf (schema_in text) capacity (map (script (schema_in text)) scripts) (turns_in turns) out
  pub replayed : (by_moves by_turns : List ℕ) → IsReplay text scripts (Moves out) capacity by_moves → IsReplay text scripts (Turns turns) capacity by_turns
      → (results : List Stepped) × (by_moves ≡ moves_text results ++ by_turns)

-- what `turns` prints of texts that are held
abbrev pub MovesHeld : (TextPlace → List ℕ → Type 0) → ℕ → ℕ → List ℕ → Type 0
MovesHeld holds count capacity out =
    (texts : Texts holds count kind.Turns) × (turns : List ℕ) × (texts.order ≡ Turns turns) × IsMovesText texts.schema texts.scripts turns capacity out

-- all texts are held and accepted, and the fault says that the turns stand for too many moves
pub record ToldOfMoves (holds : TextPlace → List ℕ → Type 0) (fault : Fault) (count capacity : ℕ) : Type 0 where
  pub lists : Lists
  pub turns : List ℕ
  pub right : is_count count ≡ true
  pub schema : ReadSchema holds lists
  pub scripts : ReadScripts holds lists count
  pub turns_too : ReadTurns holds turns
  pub more : AreMoreMoves lists capacity (map (script lists) scripts.texts) turns fault

-- what `turns` reports: a fault of a run, or of its moves
abbrev pub ToldOfTurns : (TextPlace → List ℕ → Type 0) → (TextPlace → Fault → Type 0) → Fault → ℕ → ℕ → Type 0
ToldOfTurns holds fails fault count capacity = ToldOfRun holds fails fault count kind.Turns ⊎ ToldOfMoves holds fault count capacity
