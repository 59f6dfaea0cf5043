-- The moves that turns stand for, as a text that says them.
use Rattle.std.proofs.Common.{◌≡◌, ℕ, zero, suc, ◌≤◌, true, List, [], ◌∷◌, length, map, refl, sym, ap, ◌∙◌, subst, arith, nat_le}
use Rattle.std.specs.List.{list_all}
use Rattle.std.proofs.lemmas.Bool.{and_from, and_parts, le-leb}
use Rattle.std.proofs.lemmas.List.Folds.{list_all-append}
use Rattle.dbtg_schema.specs.Lists.{Lists}
use Rattle.dbtg_unit.specs.declared.moves.Move.{Move}
use Rattle.dbtg_unit.specs.declared.statement.Statement.{Statement}
use Rattle.dbtg_step.specs.declared.results.Run.{Run}
use Rattle.dbtg_step.specs.Machine.SequentialDatabase.{SequentialDatabase, unit_at}
use Rattle.dbtg_step.specs.Machine.Machine.{SequentialState, State}
use Rattle.dbtg_step.specs.Machine.Headline.{machine_after, machine_of, opening_of}
use Rattle.dbtg_step.specs.Machine.Network.{network}
use Rattle.dbtg_step.specs.Core.Turns.{AreEvents, AreTurns, IsRunByTurns, IsTurn, IsTurnOf, left_of}
use Rattle.dbtg_script.specs.declared.limits.TheConstants.{MOST_MOVES}
use Rattle.dbtg_script.specs.Laws.{has_unit_number, is_unit_number}
use Rattle.dbtg_script.specs.Moves.{refusal as moves_refusal}
use Rattle.dbtg_script.specs.Statements.{script}
use Rattle.dbtg_script.specs.Printing.WordTexts.{moves_words_text}
use Rattle.dbtg_script.proofs.Public.{moves_read_back}
use Rattle.dbtg_command.specs.declared.fault.Fault.{Fault}
use Rattle.dbtg_command.specs.declared.order.Order.TheVariants.{Turns}
use Rattle.dbtg_command.specs.declared.place.TextPlace.{TextPlace}
use Rattle.dbtg_replay.specs.ByTurns.{AreMoreMoves, AreMovesOf, MovesHeld, ToldOfMoves}
use Rattle.dbtg_replay.specs.Ordering.{StandFor}
use Rattle.dbtg_command.specs.Refusals.{is_count, moves_in, turns_in}
use Rattle.dbtg_command.specs.Sources.{ReadSchema, ReadScripts, ReadTurns}
use Rattle.dbtg_replay.proofs.SameRun.{replayed_same}
use Rattle.dbtg_command.proofs.Public.{all_accepted, read_texts}

-- these moves are those of a run by turns
pub stands_for : (lists : Lists) (capacity : ℕ) (scripts : List (List Statement)) (turns : List ℕ) (moves said : List Move) (given : Run) → said ≡ moves → IsRunByTurns lists capacity scripts turns moves given → StandFor lists capacity scripts turns said
stands_for lists capacity scripts turns moves said given e run = (given, subst (λ ms. IsRunByTurns lists capacity scripts turns ms given) (sym e) run)

module _ (D : SequentialDatabase) (opening : SequentialState D) where
  events_named : (u : ℕ) → is_unit_number u ≡ true → (ms : List Move) (s t : State D) → AreEvents D opening u s ms t → list_all has_unit_number ms ≡ true
  unfolding AreEvents
  events_named u named [] s t e = refl
  events_named u named (m ∷ ms) s t e =
      and_from (has_unit_number m) (list_all has_unit_number ms) (ap has_unit_number e.1 ∙ named) (events_named u named ms e.0 t e.3)

  -- the moves of a turn of a unit with this many statements left
  left_named : (n : ℕ) → nat_le (suc n) 99 ≡ true → (xs : List D.Statement) (s t : State D) (ms : List Move) → IsTurnOf D opening (suc n) xs s ms t → list_all has_unit_number ms ≡ true
  left_named n small [] s t ms e = ap (list_all has_unit_number) e.0
  left_named n small (x ∷ xs) s t ms e = events_named (suc n) (and_from (nat_le 1 (suc n)) (nat_le (suc n) 99) (le-leb 1 (suc n) (omega arith)) small) ms s t e.0

  turn_named : (u : ℕ) → nat_le u 99 ≡ true → (s t : State D) (ms : List Move) → IsTurn D opening u s ms t → list_all has_unit_number ms ≡ true
  unfolding unit_at
  turn_named zero small s t ms e = ap (list_all has_unit_number) e.0
  turn_named (suc n) small s t ms e = left_named n small (left_of D (unit_at s.units (suc n))) s t ms e

  turns_named : (us : List ℕ) → list_all (λ u. nat_le u 99) us ≡ true → (s t : State D) (ms : List Move) → AreTurns D opening us s ms t → list_all has_unit_number ms ≡ true
  unfolding AreTurns
  turns_named [] small s t ms e = ap (list_all has_unit_number) e.0
  turns_named (u ∷ us) small s t ms e =
      let both = and_parts (nat_le u 99) (list_all (λ v. nat_le v 99) us) small in
      ap (list_all has_unit_number) e.3 ∙ list_all-append has_unit_number e.0 e.1
      ∙ and_from (list_all has_unit_number e.0) (list_all has_unit_number e.1) (turn_named u both.0 s e.2 e.0 e.4) (turns_named us both.1 e.2 t e.1 e.5)

pub moves_said : (lists : Lists) (capacity : ℕ) (scripts : List (List Statement)) (turns : List ℕ) (moves : List Move) (given : Run) (out : List ℕ)
    → IsRunByTurns lists capacity scripts turns moves given → list_all (λ u. nat_le u 99) turns ≡ true → length moves ≤ MOST_MOVES → out ≡ moves_words_text moves → AreMovesOf lists capacity scripts turns out
moves_said lists capacity scripts turns moves given out run small few is =
    let named = turns_named (network lists capacity) (opening_of lists capacity (length scripts)) turns small (machine_of lists capacity scripts) (machine_after lists capacity scripts moves) moves run.moves_are in
    let back = moves_read_back moves named few in
    let says : moves_in out ≡ moves = ap moves_in is ∙ back.1 in
    record {
      accepted = ap moves_refusal is ∙ back.0;
      stand = (given, subst (λ ms. IsRunByTurns lists capacity scripts turns ms given) (sym says) run);
      is_text = is ∙ ap moves_words_text (sym says);
    }

-- what holds of the statements and turns that were read holds of what the texts say
module _ (holds : TextPlace → List ℕ → Type 0) (lists : Lists) (count capacity : ℕ) (right : is_count count ≡ true) (read : ReadSchema holds lists) (scripts : ReadScripts holds lists count)
    (statements : List (List Statement)) (same : statements ≡ map (script lists) scripts.texts) (turns used : List ℕ) (by : ReadTurns holds turns) (e : used ≡ turns) where
  pub moves_held : (out : List ℕ) → AreMovesOf lists capacity statements used out → MovesHeld holds count capacity out
  moves_held out moves =
      let of_turns = subst (λ us. AreMovesOf lists capacity statements us out) (e ∙ by.says) moves in
      let of_scripts = subst (λ ss. AreMovesOf lists capacity ss (turns_in by.text) out) same of_turns in
      let of_texts = subst (λ (s : Lists). AreMovesOf s capacity (map (script s) scripts.texts) (turns_in by.text) out) read.says of_scripts in (
        read_texts holds lists count read scripts (Turns by.text) by.held,
        by.text,
        refl,
        record {
          count = ap is_count scripts.many ∙ right;
          texts = all_accepted holds lists count read scripts;
          turns_too = by.accepted;
          moves = of_texts;
          replayed = replayed_same read.text scripts.texts by.text out capacity of_texts.stand;
        },
      )

  pub more_told : (fault : Fault) → AreMoreMoves lists capacity statements used fault → ToldOfMoves holds fault count capacity
  more_told fault more = record {
    lists = lists;
    turns = turns;
    right = right;
    schema = read;
    scripts = scripts;
    turns_too = by;
    more = subst (λ ss. AreMoreMoves lists capacity ss turns fault) same (subst (λ us. AreMoreMoves lists capacity statements us fault) e more);
  }
