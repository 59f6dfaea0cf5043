-- Comparisons of values, read along two lists.
use Rattle.std.proofs.Common.{◌≡◌, ◌≢◌, ℕ, zero, suc, ◌<◌, ◌≤◌, Bool, true, false, List, [], ◌∷◌, length, drop, length-drop, refl, sym, ap, arith, true≢false}
use Rattle.std.proofs.lemmas.Bool.{and_parts}
use Rattle.dbtg_cells.specs.declared.key.Value.{Value}
use Rattle.dbtg_cells.specs.Keys.{bytes_below, value_eq, values_eq}

-- the first list has ended, and the second has not
pub bytes_lt_ended : (i : ℕ) (a b : List ℕ) → length a ≤ i → i < length b → bytes_below (drop i a) (drop i b) ≡ true
bytes_lt_ended i a [] ended within = absurd (omega arith)
bytes_lt_ended zero [] (y ∷ ys) ended within = refl
bytes_lt_ended zero (x ∷ xs) (y ∷ ys) ended within = absurd (omega arith)
bytes_lt_ended (suc i) [] (y ∷ ys) ended within = bytes_lt_rest (drop i ys) (omega (arith, length-drop i ys))
  where
    bytes_lt_rest : (zs : List ℕ) → 0 < length zs → bytes_below [] zs ≡ true
    bytes_lt_rest [] h = absurd (omega arith)
    bytes_lt_rest (z ∷ zs) h = refl
bytes_lt_ended (suc i) (x ∷ xs) (y ∷ ys) ended within = bytes_lt_ended i xs ys (omega arith) (omega arith)

pub values_eq_lengths : (a b : List Value) → values_eq a b ≡ true → length a ≡ length b
values_eq_lengths [] [] h = refl
values_eq_lengths [] (y ∷ ys) h = absurd (true≢false (sym h))
values_eq_lengths (x ∷ xs) [] h = absurd (true≢false (sym h))
values_eq_lengths (x ∷ xs) (y ∷ ys) h = ap suc (values_eq_lengths xs ys (and_parts (value_eq x y) (values_eq xs ys) h).1)

pub values_eq_unlike : (a b : List Value) → length a ≢ length b → false ≡ values_eq a b
values_eq_unlike a b unlike = by (values_eq a b) refl
  where
    by : (t : Bool) → values_eq a b ≡ t → false ≡ values_eq a b
    by true p = absurd (unlike (values_eq_lengths a b p))
    by false p = sym p
