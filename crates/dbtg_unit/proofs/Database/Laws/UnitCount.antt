-- Statements leave the number of units as it is, and only a unit that is there has an answer.
use Rattle.std.proofs.Common.{◌≡◌, refl, ◌∙◌, subst, ℕ, zero, suc, ◌-◌, ◌<◌, ◌≤◌, true, ◌&&◌, List, [], ◌∷◌, length, Option, Some, None, slice_get, arith}
use Rattle.std.specs.Prelude.{nat_lt, nat_le, option_map}
use Rattle.std.specs.List.{list_all}
use Rattle.std.proofs.lemmas.Bool.{and_from, lt-ltb, le-leb}
use Rattle.std.proofs.lemmas.List.{length-set}
use Rattle.dbtg_schema.specs.Lists.{Lists}
use Rattle.dbtg_unit.specs.declared.unit.Unit.{Unit}
use Rattle.dbtg_unit.specs.declared.unit.Entry.{Entry}
use Rattle.dbtg_unit.specs.Database.Statements.Effect.{StatementEffect, effect}
use Rattle.dbtg_unit.specs.Database.Laws.Replay.{State, AnswersHold, after_entry, after_effect, answer_to, effect_of_unit, replay}

-- the effect of a statement makes no unit and removes none
pub effect_keeps_count : (state : State) (number : ℕ) (o : Option StatementEffect) → length (after_effect state number o).units ≡ length state.units
effect_keeps_count state number None = refl
effect_keeps_count state number (Some o) = length-set state.units (number - 1) o.unit

-- after a history there are as many units as before it
pub replay_keeps_count : (schema : Lists) (capacity : ℕ) (state : State) (history : List Entry) → length (replay schema capacity state history).units ≡ length state.units
unfolding replay
replay_keeps_count schema capacity state [] = refl
replay_keeps_count schema capacity state (e ∷ es) =
    replay_keeps_count schema capacity (after_entry schema capacity state e) es ∙ effect_keeps_count state e.unit (effect_of_unit schema capacity state e.unit e.statement)

-- an answer is to a unit that is there
pub unit_is_there : (schema : Lists) (capacity : ℕ) (state : State) (entry : Entry) → answer_to schema capacity state entry ≡ Some entry.answer → (0 < entry.unit) × (entry.unit ≤ length state.units)
unit_is_there schema capacity state entry e = by entry.unit e
  where
    within : (units : List Unit) (n : ℕ) (f : Unit → StatementEffect) → option_map (λ (o : StatementEffect). o.answer) (option_map f (slice_get units n)) ≡ Some entry.answer → n < length units
    within [] n f e = absurd (cc (e))
    within (y ∷ ys) zero f e = omega arith
    within (y ∷ ys) (suc n) f e = let l = within ys n f e in omega (arith, l)

    by : (number : ℕ) → option_map (λ (o : StatementEffect). o.answer) (effect_of_unit schema capacity state number entry.statement) ≡ Some entry.answer → (0 < number) × (number ≤ length state.units)
    by zero e = absurd (cc (e))
    by (suc n) e = let l = within state.units n (λ unit. effect schema capacity state.database unit entry.statement) e in (omega arith, omega (arith, l))

-- each entry of a history is of a unit that is there
pub units_are_there : (schema : Lists) (capacity : ℕ) (state : State) (history : List Entry) → AnswersHold schema capacity state history → list_all (λ e. nat_lt 0 e.unit && nat_le e.unit (length state.units)) history ≡ true
unfolding AnswersHold
units_are_there schema capacity state [] h = refl
units_are_there schema capacity state (e ∷ es) h =
    let there = unit_is_there schema capacity state e h.0 in
    and_from _ _ (and_from _ _ (lt-ltb 0 e.unit there.0) (le-leb e.unit (length state.units) there.1))
    (subst (λ (n : ℕ). list_all (λ (x : Entry). nat_lt 0 x.unit && nat_le x.unit n) es ≡ true) (effect_keeps_count state e.unit (effect_of_unit schema capacity state e.unit e.statement)) (units_are_there schema capacity (after_entry schema capacity state e) es h.1))
