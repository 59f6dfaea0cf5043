-- The picture of what was read is the one of what the texts say.
use Rattle.std.proofs.Common.{◌≡◌, ℕ, Bool, false, true, List, ◌++◌, length, map, ap, sym, ◌∙◌, subst}
use Rattle.dbtg_schema.specs.Lists.{Lists}
use Rattle.dbtg_unit.specs.declared.moves.Move.{Move}
use Rattle.dbtg_unit.specs.declared.statement.Statement.{Statement}
use Rattle.dbtg_script.specs.Statements.{script}
use Rattle.dbtg_step.specs.declared.results.Run.{Run}
use Rattle.dbtg_step.specs.Core.Turns.{IsRunByTurns}
use Rattle.dbtg_command.specs.declared.place.TextPlace.{TextPlace}
use Rattle.dbtg_command.specs.declared.order.Order.{Order}
use Rattle.dbtg_command.specs.declared.order.Order.TheVariants.{Moves, Serial, Turns}
use Rattle.dbtg_command.specs.declared.order.OrderKind.TheVariants as kind
use Rattle.dbtg.specs.declared.timeline.Form.{Form}
use Rattle.dbtg_replay.specs.Ordering.{AreFirstMoves, StandFor, first_turns, serial_turns}
use Rattle.dbtg.specs.Picturing.{AreInOrder, IsPictured, TimelineHeld, has_events, picture}
use Rattle.dbtg_command.specs.Refusals.{AcceptsOrder, is_count}
use Rattle.dbtg_command.specs.Sources.{HoldsOrder, ReadMoves, ReadSchema, ReadScripts, ReadTurns, kind_of}
use Rattle.dbtg_command.proofs.Public.{all_accepted, read_texts}

-- these moves are those of a run by turns
pub stands_for : (lists : Lists) (capacity : ℕ) (scripts : List (List Statement)) (turns : List ℕ) (moves said : List Move) (given : Run) → said ≡ moves → IsRunByTurns lists capacity scripts turns moves given → StandFor lists capacity scripts turns said
stands_for lists capacity scripts turns moves said given e run = (given, subst (λ ms. IsRunByTurns lists capacity scripts turns ms given) (sym e) run)

picture_is_made : (holds : TextPlace → List ℕ → Type 0) (lists : Lists) (count : ℕ) (order : Order (List ℕ)) (first : Bool) (form : Form) (capacity : ℕ) (out : List ℕ)
    → is_count count ≡ true → ReadSchema holds lists → (scripts : ReadScripts holds lists count) → HoldsOrder holds order → AcceptsOrder order
    → IsPictured lists capacity (map (script lists) scripts.texts) scripts.texts form (has_events order) first (AreInOrder first lists capacity (map
    (script lists) scripts.texts) order) out
    → TimelineHeld holds count (kind_of order) first capacity form out
picture_is_made holds lists count order first form capacity out right read scripts held accepted pictured = (
  read_texts holds lists count read scripts order held,
  record {
    count = ap is_count scripts.many ∙ right;
    texts = all_accepted holds lists count read scripts;
    order_too = accepted;
    pictured = subst (λ (s : Lists). IsPictured s capacity (map (script s) scripts.texts) scripts.texts form (has_events order) first
        (AreInOrder first s capacity (map (script s) scripts.texts) order) out) read.says pictured;
  },
)

-- the same for what was read, with no order, moves, or turns
module _ (holds : TextPlace → List ℕ → Type 0) (lists : Lists) (count capacity : ℕ) (first : Bool) (form : Form) (out : List ℕ) (right : is_count count ≡ true) (read : ReadSchema holds lists) (scripts : ReadScripts holds lists count)
    (statements : List (List Statement)) (same : statements ≡ map (script lists) scripts.texts) (texts : List (List ℕ)) (are : texts ≡ scripts.texts) where
  pictures_in : (order : Order (List ℕ)) → HoldsOrder holds order → AcceptsOrder order
      → IsPictured lists capacity statements texts form (has_events order) first (AreInOrder first lists capacity statements order) out
      → TimelineHeld holds count (kind_of order) first capacity form out
  pictures_in order held accepted pictured =
      let of_all = subst (λ ss. IsPictured lists capacity ss texts form (has_events order) first
      (AreInOrder first lists capacity ss order) out) same pictured in
      picture_is_made holds lists count order first form capacity out right read scripts held accepted
      (subst (λ ts. IsPictured lists capacity (map (script lists) scripts.texts) ts form (has_events order) first (AreInOrder first lists capacity (map
      (script lists) scripts.texts) order) out) are of_all)

  pub pictures_serially : (given : List ℕ) → given ≡ serial_turns 1 statements
      → IsPictured lists capacity statements texts form false first (StandFor lists capacity statements (first_turns first statements ++ given)) out
      → TimelineHeld holds count kind.Serial first capacity form out
  pictures_serially given e pictured =
      pictures_in Serial tt tt (subst (λ us. IsPictured lists capacity statements texts form false first (StandFor lists capacity statements
      (first_turns first statements ++ us)) out) e pictured)

  pub pictures_moves : (moves before used : List Move) (passed : ℕ) → ReadMoves holds moves → AreFirstMoves first lists capacity statements before → used
      ≡ before ++ moves → passed ≡ length before
      → out ≡ picture form lists capacity statements texts true passed used → TimelineHeld holds count kind.Moves first capacity form out
  pictures_moves moves before used passed by are_first e many is_text =
      pictures_in (Moves by.text) by.held by.accepted (record {
        moves = used;
        are = (before, are_first, e ∙ ap (λ (ms : List Move). before ++ ms) by.says);
        before = passed;
        are_before = (before, are_first, many);
        is_text = is_text;
      })

  pub pictures_turns : (turns given : List ℕ) → ReadTurns holds turns → given ≡ turns
      → IsPictured lists capacity statements texts form false first (StandFor lists capacity statements (first_turns first statements ++ given)) out
      → TimelineHeld holds count kind.Turns first capacity form out
  pictures_turns turns given by same_turns pictured =
      pictures_in (Turns by.text) by.held by.accepted
      (subst (λ us. IsPictured lists capacity statements texts form false first (StandFor lists capacity statements (first_turns first statements
      ++ us)) out) (same_turns ∙ by.says) pictured)
