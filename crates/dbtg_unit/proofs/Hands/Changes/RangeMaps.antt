-- Maps over a range that differ at one number.
use Rattle.std.proofs.Common.{◌≡◌, ◌≢◌, refl, sym, ◌∙◌, ap, ℕ, zero, suc, ◌+◌, ◌≤◌, ◌∷◌, map, arith}
use Rattle.std.specs.Prelude.{slice_set, cond}
use Rattle.std.proofs.Common.{eqb, inl, inr, ◌-◌}
use Rattle.std.proofs.lemmas.Bool.{cases_Bool, eqb-true, eqb-false}
use Rattle.dbtg_cells.specs.declared.extent.Number.{Number}
use Rattle.dbtg_unit.specs.Hands.Edits.{with_number}
use Rattle.std.specs.List.{range_with_len}

-- functions that agree from a number on
pub map_range_same : {X : Type 0} (f g : ℕ → X) (from count : ℕ) → ((j : ℕ) → from ≤ j → f j ≡ g j) → map f (range_with_len from count) ≡ map g (range_with_len from count)
map_range_same f g from zero same = refl
map_range_same f g from (suc count) same =
    λ i. same from (omega arith) i ∷ map_range_same f g (from + 1) count (λ j above. same j (omega (arith, above))) i

-- functions that agree but at one number
pub map_range_set : {X : Type 0} (f g : ℕ → X) (v : X) (from count at n : ℕ) → n ≡ from + at → f n ≡ v → ((j : ℕ) → j ≢ n → f j ≡ g j)
    → map f (range_with_len from count) ≡ slice_set (map g (range_with_len from count)) at v
map_range_set f g v from zero zero n is here same = refl
map_range_set f g v from zero (suc at) n is here same = refl
map_range_set f g v from (suc count) zero n is here same =
    let first : from ≡ n = omega (arith, is) in
    λ i. (ap f first ∙ here) i ∷ map_range_same f g (from + 1) count (λ j above. same j (omega (arith, above, is))) i
map_range_set f g v from (suc count) (suc at) n is here same =
    λ i. same from (omega (arith, is)) i ∷ map_range_set f g v (from + 1) count at n (omega (arith, is)) here same i

-- functions that agree but at one number, where the first is a change of the second
pub map_range_changed : (f g : ℕ → Number) (change : Number → Number) (from count i n : ℕ) → n + 1 ≡ from + i → 1 ≤ i → f n ≡ change (g n) → ((j : ℕ) → j ≢ n → f j ≡ g j)
    → map f (range_with_len from count) ≡ with_number i change (map g (range_with_len from count))
map_range_changed f g change from zero i n is above here same = refl
map_range_changed f g change from (suc count) i n is above here same =
    elim (cases_Bool (eqb i 1)) [
      | inl e ↦
          let one = eqb-true i 1 e in
          let first : from ≡ n = omega (arith, is, one) in
          (λ j. (ap f first ∙ here ∙ ap (λ m. change (g m)) (sym first)) j ∷ map_range_same f g (from + 1) count (λ m beyond. same m (omega (arith, beyond, is, one))) j)
          ∙ ap (λ b. cond b (change (g from) ∷ map g (range_with_len (from + 1) count)) (g from ∷ with_number (i - 1) change (map g (range_with_len (from + 1) count)))) (sym e)
      | inr e ↦
          let more = eqb-false i 1 e in
          (λ j. same from (omega (arith, is, more, above)) j ∷ map_range_changed f g change (from + 1) count (i - 1) n (omega (arith, is, more, above)) (omega (arith, more, above)) here same j)
          ∙ ap (λ b. cond b (change (g from) ∷ map g (range_with_len (from + 1) count)) (g from ∷ with_number (i - 1) change (map g (range_with_len (from + 1) count)))) (sym e)
    ]
