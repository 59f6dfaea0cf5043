-- The units of a state: where each stands, and that the entries of a history are of units that there are.
-- u is a unit, es are entries.
use Rattle.std.proofs.Common.{◌≡◌, sym, ap, subst, ℕ, zero, suc, ◌-◌, ◌<◌, ◌≤◌, List, [], ◌∷◌, length, Some, arith, slice_get}
use Rattle.dbtg_schema.specs.Lists.{Lists}
use Rattle.dbtg_unit.specs.Database.Laws.Replay.{State, effect_of_unit, unit_of, AnswersHold, after_entry}
use Rattle.dbtg_unit.proofs.Public.{effect_keeps_count, unit_is_there}
use Rattle.dbtg_unit.specs.declared.unit.Entry.{Entry}

pub unit_is : (state : State) (u : ℕ) → 0 < u → unit_of state u ≡ slice_get state.units (u - 1)
unit_is state zero low = absurd (omega (arith, low))
unit_is state (suc n) low = let is : suc n - 1 ≡ n = omega arith in ap (slice_get state.units) (sym is)

module _ (schema : Lists) (capacity : ℕ) where
  pub units_within : (state : State) (es : List Entry) (i : ℕ) (e : Entry) → AnswersHold schema capacity state es → slice_get es i ≡ Some e → (0 < e.unit) × (e.unit ≤ length state.units)
  unfolding AnswersHold
  units_within state [] i e h g = absurd (cc)
  units_within state (f ∷ es) zero e h g =
      let same : f ≡ e = cc in
      subst (λ (d : Entry). (0 < d.unit) × (d.unit ≤ length state.units)) same (unit_is_there schema capacity state f h.0)
  units_within state (f ∷ es) (suc i) e h g =
      let rest = units_within (after_entry schema capacity state f) es i e h.1 g in
      let many = effect_keeps_count state f.unit (effect_of_unit schema capacity state f.unit f.statement) in
      let high = rest.1 in
      (rest.0, omega arith)
