-- Runs of the same scripts print the same if their entries belong to the same units in turn.
use Rattle.std.proofs.Common.{◌≡◌, ℕ, false, List, ◌++◌, drop, length, map, sym, ap, ◌∙◌, subst}
use Rattle.dbtg_schema.specs.Lists.{Lists}
use Rattle.dbtg_unit.specs.declared.moves.Move.{Move}
use Rattle.dbtg_unit.specs.declared.moves.Stepped.{Stepped}
use Rattle.dbtg_unit.specs.declared.statement.Statement.{Statement}
use Rattle.dbtg_unit.specs.declared.unit.Entry.{Entry}
use Rattle.dbtg_unit.specs.Database.State.Image.{image_of}
use Rattle.dbtg_unit.specs.Database.Laws.Replay.{opening_state, replay}
use Rattle.dbtg_unit.proofs.Public.{opening_length}
use Rattle.dbtg_step.specs.declared.results.Run.{Run}
use Rattle.dbtg_step.specs.Machine.Headline.{IsSequential, RunIs}
use Rattle.dbtg_script.specs.Statements.{script}
use Rattle.dbtg_script.specs.Printing.Texts.{moves_text}
use Rattle.dbtg_command.specs.declared.order.Order.TheVariants.{Moves, Turns}
use Rattle.dbtg_replay.specs.Ordering.{StandFor}
use Rattle.dbtg_command.specs.Refusals.{moves_in, schema_in, turns_in}
use Rattle.dbtg_replay.specs.declared.replay.AnswerForm.{AnswerForm}
use Rattle.dbtg_replay.specs.declared.replay.AnswerForm.TheVariants.{Plain, Echo, Explained, Trace}
use Rattle.dbtg_replay.specs.Replaying.{IsReplay, MovedIs, shown_text}
use Rattle.dbtg_replay.proofs.UnitEntries.{same_history}

-- the same is shown for the same history, image and units
shown_alike : (lists : Lists) (form : AnswerForm) (texts : List (List ℕ)) (a b : Run) → a.history ≡ b.history → a.image ≡ b.image → a.units ≡ b.units → shown_text lists form texts a ≡ shown_text lists form texts b
shown_alike lists Plain texts a b h m u = λ i. shown_text lists Plain texts (record a { history = h i; image = m i; units = u i })
shown_alike lists Echo texts a b h m u = λ i. shown_text lists Echo texts (record a { history = h i; image = m i; units = u i })
shown_alike lists (Explained capacity) texts a b h m u = λ i. shown_text lists (Explained capacity) texts (record a { history = h i; image = m i; units = u i })
shown_alike lists Trace texts a b h m u = λ i. shown_text lists Trace texts (record a { history = h i; image = m i; units = u i })

pub same_text : (lists : Lists) (capacity : ℕ) (scripts : List (List Statement)) (form : AnswerForm) (texts : List (List ℕ)) (a b : Run)
    → IsSequential lists capacity scripts a.history a.image a.units → IsSequential lists capacity scripts b.history b.image b.units → map (λ (e : Entry). e.unit) a.history ≡ map (λ (e : Entry). e.unit) b.history
    → shown_text lists form texts a ≡ shown_text lists form texts b
same_text lists capacity scripts form texts a b one other turns =
    let before = opening_state lists (length scripts) in
    let history = same_history lists capacity before scripts a.history b.history (opening_length lists (length scripts)) one.tickets other.tickets one.answers other.answers one.scripts_begin other.scripts_begin turns in
    let shown = one.image_is ∙ ap (λ h. image_of lists capacity (replay lists capacity before h).database) history ∙ sym other.image_is in
    let left = one.units_are ∙ ap (λ h. (replay lists capacity before h).units) history ∙ sym other.units_are in
    shown_alike lists form texts a b history shown left

-- if no script is made first, the run is that of the moves alone
moved_alone : (lists : Lists) (capacity : ℕ) (scripts : List (List Statement)) (moves : List Move) (given : Run) → MovedIs false lists capacity scripts moves given → RunIs lists capacity scripts moves given
moved_alone lists capacity scripts moves given moved =
    let whole = moved.whole in
    let same : given ≡ whole = moved.given_is ∙ ap (λ (b : List Move). record whole { results = drop (length b) whole.results }) moved.are_first in
    subst (RunIs lists capacity scripts moves) (sym same) (subst (λ (b : List Move). RunIs lists capacity scripts (b ++ moves) whole) moved.are_first moved.is_run)

-- the run of the moves that turns stand for prints, after its line of moves, what the run by the turns prints
pub replayed_same : (text : List ℕ) (scripts : List (List ℕ)) (turns out : List ℕ) (capacity : ℕ)
    → StandFor (schema_in text) capacity (map (script (schema_in text)) scripts) (turns_in turns) (moves_in out)
    → (by_moves by_turns : List ℕ) → IsReplay text scripts (Moves out) capacity by_moves → IsReplay text scripts (Turns turns) capacity by_turns
    → (results : List Stepped) × (by_moves ≡ moves_text results ++ by_turns)
replayed_same text scripts turns out capacity stand by_moves by_turns one other =
    let lists = schema_in text in
    let a = one.run.given in
    let b = other.run.given in
    let moved = moved_alone lists capacity (map (script lists) scripts) (moves_in out) a one.run.is_run in
    let same : map (λ (e : Entry). e.unit) a.history ≡ map (λ (e : Entry). e.unit) b.history =
    ap (map (λ (e : Entry). e.unit)) (moved.history_is ∙ sym stand.1.history_is) ∙ stand.1.in_turn ∙ sym other.run.is_run.1.in_turn in
    let printed = same_text lists capacity (map (script lists) scripts) Plain scripts a b moved.sequential other.run.is_run.1.sequential same in
    (a.results, one.run.is_text ∙ ap (λ xs. moves_text a.results ++ xs) (printed ∙ sym other.run.is_text))
