-- The entry of one number of an extent, changed.
use Rattle.std.proofs.Common.{◌≡◌, refl, sym, ◌∙◌, ap, ℕ, zero, suc, ◌+◌, ◌-◌, Bool, true, false, cond, List, [], ◌∷◌, Option, Some, None, eqb, arith}
use Rattle.std.specs.Prelude.{slice_get, slice_set, option_map, unwrap_or}
use Rattle.std.proofs.lemmas.Bool.{eqb-true, eq-eqb, false≢true, false_from_ne_true}
use Rattle.dbtg_schema.specs.Lookups.{some_and}
use Rattle.dbtg_cells.specs.declared.extent.Number.{Number}
use Rattle.dbtg_cells.specs.Numbers.{entry_of, last_of, with_entry}
use Rattle.dbtg_unit.specs.Hands.Edits.{with_number}

set_is : (change : Number → Number) (xs : List Number) (i n : ℕ) (e : Number) → n ≡ i + 1 → slice_get xs i ≡ Some e → slice_set xs i (change e) ≡ with_number n change xs
set_is change [] zero n e is h = refl
set_is change [] (suc i) n e is h = refl
set_is change (x ∷ xs) zero n e is h =
    let one : n ≡ 1 = omega (arith, is) in
    let same : e ≡ x = ap (λ o. unwrap_or o e) (sym h) in
    (λ j. change (same j) ∷ xs) ∙ ap (λ b. cond b (change x ∷ xs) (x ∷ with_number (n - 1) change xs)) (sym (eq-eqb n 1 one))
set_is change (x ∷ xs) (suc i) n e is h =
    let more : eqb n 1 ≡ false = false_from_ne_true _ (λ t. let one = eqb-true n 1 t in absurd (omega (arith, is, one))) in
    ap (λ ys. x ∷ ys) (set_is change xs i (n - 1) e (omega (arith, is)) h)
    ∙ ap (λ b. cond b (change x ∷ xs) (x ∷ with_number (n - 1) change xs)) (sym more)

-- an entry that keeps or counts up its last generation, where there is one
pub entry_is : (change : Number → Number) (made : ℕ → Number) (test : Number → Bool) (n : ℕ) (numbers : List Number) → ((e : Number) → change e ≡ made e.last)
    → some_and test (entry_of n numbers) ≡ true → with_entry n (made (last_of n numbers)) numbers ≡ with_number n change numbers
entry_is change made test zero numbers by h = absurd (false≢true h)
entry_is change made test (suc i) numbers by h = known (slice_get numbers i) refl h where
  known : (o : Option Number) → slice_get numbers i ≡ o → some_and test o ≡ true → slice_set numbers i (made (last_of (suc i) numbers)) ≡ with_number (suc i) change numbers
  known None at h = absurd (false≢true h)
  known (Some e) at h =
      let last_is : last_of (suc i) numbers ≡ e.last = ap (λ (o : Option Number). unwrap_or (option_map (λ m. m.last) o) 0) at in
      (λ j. slice_set numbers i ((ap made last_is ∙ sym (by e)) j)) ∙ set_is change numbers i (suc i) e (omega arith) at
