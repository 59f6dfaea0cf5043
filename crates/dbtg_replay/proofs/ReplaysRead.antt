-- A run of the statements that were read is the replay of the texts that a source gives.
use Rattle.std.proofs.Common.{◌≡◌, ℕ, Bool, true, List, [], ◌∷◌, ◌++◌, drop, length, map, Option, Some, None, refl, ap, ◌∙◌, subst}
use Rattle.std.specs.List.{list_all}
use Rattle.std.proofs.lemmas.List.Folds.{list_all-append}
use Rattle.dbtg_schema.specs.Lists.{Lists}
use Rattle.dbtg_unit.specs.Database.Statements.Fits.{fits}
use Rattle.dbtg_unit.specs.declared.moves.Move.{Move}
use Rattle.dbtg_unit.specs.declared.moves.Stepped.{Stepped}
use Rattle.dbtg_unit.specs.declared.statement.Statement.{Statement}
use Rattle.dbtg_step.specs.Machine.Headline.{RunIs}
use Rattle.dbtg_step.specs.Laws.{scripts_fit}
use Rattle.dbtg_step.specs.declared.results.Run.{Run}
use Rattle.dbtg_script.specs.Statements.{script}
use Rattle.dbtg_script.specs.Printing.Texts.{moves_text}
use Rattle.dbtg_command.specs.declared.order.Order.{Order}
use Rattle.dbtg_command.specs.declared.order.Order.TheVariants.{Moves, Serial, Turns}
use Rattle.dbtg_command.specs.declared.order.OrderKind.{OrderKind}
use Rattle.dbtg_command.specs.declared.order.OrderKind.TheVariants as kind
use Rattle.dbtg_command.specs.declared.place.TextPlace.{TextPlace}
use Rattle.dbtg_command.specs.Refusals.{AcceptsOrder, is_count, turns_in}
use Rattle.dbtg_command.specs.Sources.{HoldsOrder, ReadMoves, ReadSchema, ReadScripts, ReadTurns, kind_of}
use Rattle.dbtg_command.proofs.Public.{all_accepted, read_texts}
use Rattle.dbtg_replay.specs.Ordering.{AreFirstMoves, first_turns}
use Rattle.dbtg_replay.specs.Replaying.{InTurnIs, IsPrinted, IsPrintedRun, ReplaysHeld, RunByTurnsIs, shown_text}
use Rattle.dbtg_replay.specs.declared.replay.AnswerForm.{AnswerForm}
use Rattle.dbtg_replay.specs.declared.replay.AnswerForm.TheVariants.{Plain, Echo, Explained, Trace}

-- scripts that fit, followed by statements that fit
pub fit_behind : (lists : Lists) (statements : List Statement) (before after : List (List Statement)) → after ≡ before ++ statements ∷ [] → scripts_fit lists before ≡ true → list_all (fits lists) statements ≡ true → scripts_fit lists after ≡ true
fit_behind lists statements before after e all one =
    ap (scripts_fit lists) e ∙ list_all-append (list_all (fits lists)) before (statements ∷ []) ∙ rw (all, one) refl

-- the result of a run of the statements that were read is the replay of the texts
pub replay_is_run : (holds : TextPlace → List ℕ → Type 0) (lists : Lists) (count : ℕ) (order : Order (List ℕ)) (first : Bool) (form : AnswerForm) (capacity : ℕ) (out : List ℕ)
    → is_count count ≡ true → ReadSchema holds lists → (scripts : ReadScripts holds lists count) → HoldsOrder holds order → AcceptsOrder order
    → IsPrintedRun first lists capacity (map (script lists) scripts.texts) form scripts.texts order out → ReplaysHeld holds count (kind_of order) first form capacity out
replay_is_run holds lists count order first form capacity out right read scripts held accepted run = (
  read_texts holds lists count read scripts order held,
  record {
    count = ap is_count scripts.many ∙ right;
    texts = all_accepted holds lists count read scripts;
    order_too = accepted;
    run = subst (λ (s : Lists). IsPrintedRun first s capacity (map (script s) scripts.texts) form scripts.texts order out) read.says run;
  },
)

-- what is shown of a run does not depend on the results of its moves
same_shown : (lists : Lists) (form : AnswerForm) (texts : List (List ℕ)) (given : Run) (results : List Stepped) → shown_text lists form texts given ≡ shown_text lists form texts (record given { results = results })
same_shown lists Plain texts given results = refl
same_shown lists Echo texts given results = refl
same_shown lists (Explained capacity) texts given results = refl
same_shown lists Trace texts given results = refl

-- the same for what was read, with no order, moves, or turns; and with the texts that are shown
module _ (holds : TextPlace → List ℕ → Type 0) (lists : Lists) (count capacity : ℕ) (out : List ℕ) (right : is_count count ≡ true) (read : ReadSchema holds lists) (scripts : ReadScripts holds lists count)
    (statements : List (List Statement)) (same : statements ≡ map (script lists) scripts.texts) (first : Bool) (form : AnswerForm) (texts : List (List ℕ)) (are : texts ≡ scripts.texts) where
  replays_in : (order : Order (List ℕ)) → HoldsOrder holds order → AcceptsOrder order → IsPrintedRun first lists capacity statements form texts order out → ReplaysHeld holds count (kind_of order) first form capacity out
  replays_in order held accepted run =
      let of_all = subst (λ ss. IsPrintedRun first lists capacity ss form texts order out) same run in
      replay_is_run holds lists count order first form capacity out right read scripts held accepted
      (subst (λ ts. IsPrintedRun first lists capacity (map (script lists) scripts.texts) form ts order out) are of_all)

  pub replays_serially : IsPrinted (InTurnIs first lists capacity statements) (shown_text lists form texts) out → ReplaysHeld holds count kind.Serial first form capacity out
  replays_serially run = replays_in Serial tt tt run

  -- all moves are those that make the first script, followed by those that were read
  pub replays_moves : (moves before all : List Move) (many : ℕ) → ReadMoves holds moves → AreFirstMoves first lists capacity statements before → all ≡ before ++ moves → many ≡ length before
      → IsPrinted (RunIs lists capacity statements all) (λ given. moves_text (drop many given.results) ++ shown_text lists form texts given) out → ReplaysHeld holds count kind.Moves first form capacity out
  replays_moves moves before all many by are_first all_is many_is run =
      let whole = run.given in
      let results = drop (length before) whole.results in
      replays_in (Moves by.text) by.held by.accepted (record {
        given = record whole { results = results };
        is_run = record {
          before = before;
          are_first = are_first;
          whole = whole;
          is_run = subst (λ ms. RunIs lists capacity statements ms whole) (all_is ∙ ap (λ (ms : List Move). before ++ ms) by.says) run.is_run;
          given_is = refl;
        };
        is_text = run.is_text ∙ ap (λ k. moves_text (drop k whole.results) ++ shown_text lists form texts whole) many_is ∙ ap (λ xs. moves_text results ++ xs) (same_shown lists form texts whole results);
      })

  pub replays_turns : (turns given used : List ℕ) → ReadTurns holds turns → given ≡ turns → used ≡ first_turns first statements ++ given
      → IsPrinted (RunByTurnsIs lists capacity statements used) (shown_text lists form texts) out → ReplaysHeld holds count kind.Turns first form capacity out
  replays_turns turns given used by same_turns e run =
      let says : used ≡ first_turns first statements ++ turns_in by.text = e ∙ ap (λ (us : List ℕ). first_turns first statements ++ us) (same_turns ∙ by.says) in
      replays_in (Turns by.text) by.held by.accepted (subst (λ us. IsPrinted (RunByTurnsIs lists capacity statements us) (shown_text lists form texts) out) says run)
