-- The moves of a run, one after another, and what a core hands out.
use Rattle.std.proofs.Common.{ℕ, suc, ◌+◌, ◌<◌, ◌≤◌, ◌≡◌, true, List, drop, get_or, [], ◌∷◌, ◌++◌, length, map, refl, sym, ap, ◌∙◌, subst, append_assoc, append-nil, arith}
use Rattle.std.proofs.Math.Seq.{drop-cons}
use Rattle.std.proofs.lemmas.Option.{slice_get_past}
use Rattle.std.proofs.lemmas.List.FromFn.{length-map-range_with_len}
use Rattle.dbtg_schema.specs.Lists.{Lists}
use Rattle.dbtg_schema.specs.Sound.{IsSound}
use Rattle.dbtg_unit.specs.declared.statement.Statement.{Statement}
use Rattle.dbtg_unit.specs.declared.unit.Entry.{Entry}
use Rattle.dbtg_unit.specs.Database.State.Image.{image_of}
use Rattle.dbtg_unit.specs.Database.Laws.Replay.{opening_state, replay as replay_entries}
use Rattle.dbtg_unit.specs.Database.State.Units.{opening_unit}
use Rattle.dbtg_unit.proofs.Public.{drop_none, opening_is_legal}
use Rattle.dbtg_step.specs.declared.results.Run.{Run}
use Rattle.dbtg_unit.specs.declared.moves.Move.{Move}
use Rattle.dbtg_unit.specs.declared.moves.Move.TheVariants.{Step, Quit}
use Rattle.dbtg_unit.specs.declared.moves.Stepped.{Stepped}
use Rattle.dbtg_unit.specs.declared.moves.Stepped.TheVariants.{Moved, Blocked, Idle, NoMemory}
use Rattle.dbtg_step.specs.declared.parts.UnitState.{UnitState as CoreUnit}
use Rattle.dbtg_step.specs.Machine.Machine.{State, UnitState, replay}
use Rattle.dbtg_step.specs.Machine.Step.{Transition, MovedTo, IsBlocked, IsIdle, transition, state_after, result_of, run, results}
use Rattle.dbtg_step.specs.Machine.Network.{network}
use Rattle.dbtg_step.specs.Machine.Headline.{IsSequential, RunIs, entry_of, machine_after, machine_of, machine_results, opening_of}
use Rattle.dbtg_step.specs.Core.Parts.{CoreParts, CoreState, machine, note_of, state_from, unit_state_of, with_state}
use Rattle.dbtg_step.specs.Core.CoreSteps.{IsQuitStep, IsStep, after_move, result_of_move, transition_of}
use Rattle.dbtg_step.specs.Core.Runs.{IsHandedOut}
use Rattle.dbtg_step.specs.Inside.Runs.{after_moves, results_of_moves}
use Rattle.dbtg_step.specs.Laws.{scripts_fit}
use Rattle.dbtg_step.proofs.Runs.Headlines.{run_is_sequential}
use Rattle.dbtg_step.proofs.Network.NetworkFacts.{network_is_sequential}

-- ONE MOVE

-- what the core does is the machine's transition
pub record IsMade (old : CoreState) (m : Move) (result : Stepped) (new : CoreState) : Type 0 where
  pub core_is : new ≡ after_move old m
  pub result_is : result ≡ result_of_move old m

made : (old new : CoreState) (m : Move) (result : Stepped) (q : Transition (network old.schema old.capacity)) → transition_of old m ≡ q
    → new ≡ with_state old (state_after (network old.schema old.capacity) old.state q) → result ≡ result_of (network old.schema old.capacity) q → IsMade old m result new
made old new m result q e n r = record {
  core_is = n ∙ ap (λ p. with_state old (state_after (network old.schema old.capacity) old.state p)) (sym e);
  result_is = r ∙ ap (result_of (network old.schema old.capacity)) (sym e);
}

pub step_made : (old new : CoreState) (u : ℕ) (result : Stepped) → IsStep old u result new → (result ≡ NoMemory → ⊥) → IsMade old (Step u) result new
unfolding transition state_after result_of
step_made old new u Moved h n = made old new (Step u) Moved (MovedTo h.0) h.1 h.2 refl
step_made old new u Blocked h n = made old new (Step u) Blocked IsBlocked h.0 h.1 refl
step_made old new u Idle h n = made old new (Step u) Idle IsIdle h.0 h.1 refl
step_made old new u NoMemory h n = absurd (n refl)

pub quit_made : (old new : CoreState) (u : ℕ) (result : Stepped) → IsQuitStep old u result new → IsMade old (Quit u) result new
unfolding transition state_after result_of
quit_made old new u Moved h = made old new (Quit u) Moved (MovedTo h.0) h.1 h.2 refl
quit_made old new u Blocked h = absurd h
quit_made old new u Idle h = made old new (Quit u) Idle IsIdle h.0 h.1 refl
quit_made old new u NoMemory h = absurd h

-- ONE MOVE AFTER ANOTHER

-- from the first state on, these moves are left, and those before them came to these results
pub record IsUnderWay (first now : CoreState) (before : List Stepped) (left moves : List Move) : Type 0 where
  pub state : State (network first.schema first.capacity)
  pub now_is : now ≡ with_state first state
  pub results_are : before ++ results (network first.schema first.capacity) first.opening state left ≡ results_of_moves first moves
  pub end_is : run (network first.schema first.capacity) first.opening state left ≡ (after_moves first moves).state

pub sets_out : (first : CoreState) (moves : List Move) → IsUnderWay first first [] moves moves
sets_out first moves = record { state = first.state; now_is = refl; results_are = refl; end_is = refl }

pub goes_on : (first now new : CoreState) (before : List Stepped) (m : Move) (left moves : List Move) (result : Stepped) → IsUnderWay first now before (m ∷ left) moves
    → new ≡ after_move now m → result ≡ result_of_move now m → IsUnderWay first new (before ++ result ∷ []) left moves
unfolding run results
goes_on first now new before m left moves result way n r =
    let D = network first.schema first.capacity in
    let q = transition D first.opening way.state m in
    let after : new ≡ with_state first (state_after D way.state q) = subst (λ c. new ≡ after_move c m) way.now_is n in
    let came : result ≡ result_of D q = subst (λ c. result ≡ result_of_move c m) way.now_is r in
    record {
      state = state_after D way.state q;
      now_is = after;
      results_are = append_assoc before (result ∷ []) _ ∙ (ap (λ s. before ++ s ∷ results D first.opening (state_after D way.state q) left) came ∙ way.results_are);
      end_is = way.end_is;
    }

pub goes_on_at : (first now new : CoreState) (before after : List Stepped) (moves : List Move) (i : ℕ) (d : Move) (result : Stepped) → i < length moves → IsUnderWay first now before (drop i moves) moves
    → new ≡ after_move now (get_or moves i d) → result ≡ result_of_move now (get_or moves i d) → after ≡ before ++ result ∷ [] → IsUnderWay first new after (drop (i + 1) moves) moves
goes_on_at first now new before after moves i d result within way n r a =
    let count : suc i ≡ i + 1 = omega arith in
    let next : drop i moves ≡ get_or moves i d ∷ drop (i + 1) moves = drop-cons moves i d within ∙ ap (λ k. get_or moves i d ∷ drop k moves) count in
    subst (λ xs. IsUnderWay first new xs (drop (i + 1) moves) moves) (sym a)
    (goes_on first now new before (get_or moves i d) (drop (i + 1) moves) moves result (subst (λ xs. IsUnderWay first now before xs moves) next way) n r)

pub arrives : (first now : CoreState) (before : List Stepped) (moves : List Move) → IsUnderWay first now before [] moves → (now ≡ after_moves first moves) × (before ≡ results_of_moves first moves)
unfolding run results
arrives first now before moves way = (way.now_is ∙ ap (with_state first) way.end_is, sym (append-nil before) ∙ way.results_are)

pub arrives_at : (first now : CoreState) (before : List Stepped) (moves : List Move) (i : ℕ) → length moves ≤ i → IsUnderWay first now before (drop i moves) moves → (now ≡ after_moves first moves) × (before ≡ results_of_moves first moves)
arrives_at first now before moves i past way = arrives first now before moves (subst (λ xs. IsUnderWay first now before xs moves) (drop_none moves i (slice_get_past moves i past)) way)

-- WHAT IS HANDED OUT

entries_again : (schema : Lists) (capacity : ℕ) (es : List Entry) → map (entry_of {schema = schema} {capacity = capacity}) (map (note_of {schema = schema} {capacity = capacity}) es) ≡ es
entries_again schema capacity [] = refl
entries_again schema capacity (e ∷ es) = ap (λ xs. e ∷ xs) (entries_again schema capacity es)

units_again : (schema : Lists) (capacity : ℕ) (rs : List CoreUnit) → map (λ (s : UnitState (network schema capacity)). s.unit) (map (unit_state_of schema capacity) rs) ≡ map (λ (r : CoreUnit). r.unit) rs
units_again schema capacity [] = refl
units_again schema capacity (r ∷ rs) = ap (λ xs. r.unit ∷ xs) (units_again schema capacity rs)

-- a core in the last state of a run hands out what the headline says
module _ (schema : Lists) (capacity : ℕ) (scripts : List (List Statement)) (core : CoreParts) (last : State (network schema capacity))
    (is : machine core ≡ record { schema = schema; capacity = capacity; opening = opening_of schema capacity (length scripts); state = last })
    (law : IsSequential schema capacity scripts (map entry_of last.history) (image_of schema capacity (replay (network schema capacity) (opening_of schema capacity (length scripts)) last.history).database) (map (λ (x : UnitState (network schema capacity)). x.unit) last.units))
    (stepped : List Stepped) (given : Run) (handed : IsHandedOut core stepped given) where
  pub history_handed : given.history ≡ map entry_of last.history
  unfolding state_from
  history_handed = handed.history_is ∙ (sym (entries_again core.schema core.capacity core.history) ∙ ap (λ (c : CoreState). map entry_of c.state.history) is)

  units_handed : given.units ≡ map (λ (x : UnitState (network schema capacity)). x.unit) last.units
  unfolding state_from
  units_handed = handed.units_are ∙ (sym (units_again core.schema core.capacity core.runners) ∙ ap (λ (c : CoreState). map (λ (s : UnitState (network c.schema c.capacity)). s.unit) c.state.units) is)

  units_counted : length core.runners ≡ length scripts
  units_counted = sym (length-map-range_with_len (opening_unit core.schema) 1 (length core.runners)) ∙ (ap (λ (c : CoreState). length c.opening.units) is ∙ length-map-range_with_len (opening_unit schema) 1 (length scripts))

  image_handed : given.image ≡ image_of schema capacity (replay_entries schema capacity (opening_state schema (length scripts)) (map entry_of last.history)).database
  image_handed =
      let s : core.schema ≡ schema = ap (λ (c : CoreState). c.schema) is in
      let k : core.capacity ≡ capacity = ap (λ (c : CoreState). c.capacity) is in
      let h : core.history ≡ map entry_of last.history = sym handed.history_is ∙ history_handed in
      handed.image_is ∙ (λ i. image_of (s i) (k i) (replay_entries (s i) (k i) (opening_state (s i) (units_counted i)) (h i)).database)

  pub handed_sequential : IsSequential schema capacity scripts given.history given.image given.units
  handed_sequential =
      subst (λ h. IsSequential schema capacity scripts h given.image given.units) (sym history_handed)
      (subst (λ im. IsSequential schema capacity scripts (map entry_of last.history) im given.units) (law.image_is ∙ sym image_handed)
      (subst (λ us. IsSequential schema capacity scripts (map entry_of last.history) (image_of schema capacity (replay (network schema capacity) (opening_of schema capacity (length scripts)) last.history).database) us) (sym units_handed) law))

-- a run of moves from the opening state on
pub run_handed : (schema : Lists) (capacity : ℕ) (scripts : List (List Statement)) (moves : List Move) (opened moved : CoreParts) (stepped : List Stepped) (given : Run) → IsSound schema → scripts_fit schema scripts ≡ true
    → machine opened ≡ record { schema = schema; capacity = capacity; opening = opening_of schema capacity (length scripts); state = machine_of schema capacity scripts }
    → machine moved ≡ after_moves (machine opened) moves → stepped ≡ results_of_moves (machine opened) moves → IsHandedOut moved stepped given → RunIs schema capacity scripts moves given
unfolding machine_after machine_results
run_handed schema capacity scripts moves opened moved stepped given sound fit first then came handed =
    let law = run_is_sequential schema capacity scripts (opening_is_legal schema capacity (length scripts)) fit (network_is_sequential schema capacity sound) moves in
    let last = then ∙ ap (λ c. after_moves c moves) first in
    record {
      results_are = handed.results_are ∙ (came ∙ ap (λ c. results_of_moves c moves) first);
      history_is = history_handed schema capacity scripts moved _ last law stepped given handed;
      sequential = handed_sequential schema capacity scripts moved _ last law stepped given handed;
    }
