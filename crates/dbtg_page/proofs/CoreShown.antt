-- What a core shows, by its parts and by the machine that it is.
use Rattle.std.proofs.Common.{◌≡◌, ℕ, Bool, List, ◌∷◌, ◌++◌, length, map, ap, sym, ◌∙◌}
use Rattle.std.proofs.lemmas.List.{append_assoc, length-map}
use Rattle.std.proofs.lemmas.List.FromFn.{length-range_with_len}
use Rattle.std.specs.List.{range_with_len}
use Rattle.dbtg_schema.specs.Lists.{Lists}
use Rattle.dbtg_unit.specs.declared.moves.Move.{Move}
use Rattle.dbtg_unit.specs.declared.statement.Statement.{Statement}
use Rattle.dbtg_unit.specs.declared.unit.Entry.{Entry}
use Rattle.dbtg_unit.specs.Database.Laws.Replay.{State, opening_state, replay}
use Rattle.dbtg_unit.specs.Database.State.Image.{image_of}
use Rattle.dbtg_unit.specs.Database.State.Units.{opening_unit}
use Rattle.dbtg_step.specs.Core.Core.{state_now}
use Rattle.dbtg_step.specs.Core.CoreSteps.{after_move}
use Rattle.dbtg_step.specs.Core.Parts.{CoreParts, CoreState, machine, state_from, unit_state_of}
use Rattle.dbtg_step.specs.Machine.Headline.{entry_of}
use Rattle.dbtg_timeline.proofs.Public.{history_shown}
use Rattle.dbtg_timeline.specs.Watching.{opening_core}
use Rattle.dbtg_timeline.specs.Events.{event_of_move}
use Rattle.dbtg_page.specs.Rows.{core_text, move_rows, newest_answer, rows_of_moves, run_rows, sequential, shown_behind, state_text}

-- the database and the units to which its history leads
pub sequential_shown : (c : CoreParts) → state_now c ≡ sequential (machine c)
unfolding state_from
sequential_shown c =
    ap (λ (h : List Entry). replay c.schema c.capacity (opening_state c.schema (length c.runners)) h) (history_shown c)
    ∙ ap (λ (n : ℕ). replay c.schema c.capacity (opening_state c.schema n) (map entry_of (machine c).state.history)) (sym (length-map c.runners (unit_state_of c.schema c.capacity)))

-- how many units the core has
opened : (c : CoreParts) → length (machine c).opening.units ≡ length c.runners
opened c = length-map (range_with_len 1 (length c.runners)) (opening_unit c.schema) ∙ length-range_with_len 1 (length c.runners)

-- a move leaves the schema and the number of units unchanged
module _ (old new : CoreParts) (m : Move) (moved : machine new ≡ after_move (machine old) m) where
  pub same_schema : new.schema ≡ old.schema
  same_schema = ap (λ (c : CoreState). c.schema) moved

  pub same_count : length new.runners ≡ length old.runners
  same_count = sym (opened new) ∙ ap (λ (c : CoreState). length c.opening.units) moved ∙ opened old

-- a core before its first move
module _ (core : CoreParts) (schema : Lists) (capacity : ℕ) (scripts : List (List Statement)) (begun : machine core ≡ opening_core schema capacity scripts) where
  pub begun_schema : core.schema ≡ schema
  begun_schema = ap (λ (c : CoreState). c.schema) begun

  pub begun_count : length core.runners ≡ length scripts
  begun_count =
      sym (opened core) ∙ ap (λ (c : CoreState). length c.opening.units) begun
      ∙ length-map (range_with_len 1 (length scripts)) (opening_unit schema) ∙ length-range_with_len 1 (length scripts)

-- the text of what its history leads to, and its newest answer
pub text_shown : (c : CoreParts) → state_text c.schema (image_of c.schema c.capacity (state_now c).database) (state_now c).units ≡ core_text (machine c)
unfolding core_text
text_shown c = ap (λ (s : State). state_text c.schema (image_of c.schema c.capacity s.database) s.units) (sequential_shown c)

pub answer_shown : (c : CoreParts) (schema : Lists) → c.schema ≡ schema → newest_answer schema c.history
    ≡ newest_answer c.schema (map entry_of (machine c).state.history)
answer_shown c schema same = ap (λ (s : Lists). newest_answer s c.history) (sym same) ∙ ap (newest_answer c.schema) (history_shown c)

-- one more move: its rows come before those of the rest
pub move_shown : (events : Bool) (shown then : List ℕ) (out more : List ℕ) (old new : CoreState) (m : Move) (ms rest : List Move) (whole : List ℕ) → ms
    ≡ m ∷ rest → new ≡ after_move old m
    → then ≡ shown_behind (after_move old m) shown (event_of_move old m).mark
    → more ≡ out ++ move_rows events shown old m → out ++ rows_of_moves events shown old ms ≡ whole → more ++ rows_of_moves events then new rest ≡ whole
move_shown events shown then out more old new m ms rest whole split moved shows pushed before =
    ap (λ (t : List ℕ). t ++ rows_of_moves events then new rest) pushed
    ∙ append_assoc out (move_rows events shown old m) (rows_of_moves events then new rest)
    ∙ ap (λ (c : CoreState). out ++ (move_rows events shown old m ++ rows_of_moves events then c rest)) moved
    ∙ ap (λ (t : List ℕ). out ++ (move_rows events shown old m ++ rows_of_moves events t (after_move old m) rest)) shows
    ∙ ap (λ (xs : List Move). out ++ rows_of_moves events shown old xs) (sym split) ∙ before

-- one move more before the page begins
pub passed : (events : Bool) (old new start : CoreState) (m : Move) (ms rest before : List Move) → ms ≡ m ∷ rest → new ≡ after_move old m
    → ((moves : List Move) → run_rows events old ms moves ≡ run_rows events start before moves) → (moves : List Move) → run_rows events new rest moves
    ≡ run_rows events start before moves
passed events old new start m ms rest before split moved so_far moves =
    ap (λ (c : CoreState). run_rows events c rest moves) moved ∙ ap (λ (xs : List Move). run_rows events old xs moves) (sym split) ∙ so_far moves
