-- The numbers of an extent, one after another.
use Rattle.std.proofs.Common.{◌≡◌, refl, subst, ℕ, suc, ◌+◌, ◌<◌, Bool, true, cond, List, [], ◌∷◌, Some, arith, inl, inr}
use Rattle.std.specs.Prelude.{is_none, nat_lt, slice_get}
use Rattle.std.proofs.lemmas.Bool.{and_parts, cases_Bool, ltb-true}
use Rattle.std.proofs.lemmas.Option.{none-some, same_Some}
use Rattle.dbtg_schema.specs.Lookups.{first}
use Rattle.dbtg_cells.specs.declared.extent.Number.{Number}
use Rattle.dbtg_cells.specs.Numbers.{entry_of, is_free, last_of, numbers_from, numbers_where}

-- the first number that passes has an entry that does
first_passes : (test : Number → Bool) (a : ℕ) (xs : List Number) (n : ℕ) → first (numbers_from a test xs) ≡ Some n → (i : ℕ) × (n ≡ a + i) × (e : Number) × (slice_get xs i ≡ Some e) × (test e ≡ true)
first_passes test a [] n h = absurd (none-some n h)
first_passes test a (x ∷ xs) n h =
    elim (cases_Bool (test x)) [
      | inl e ↦ let same : a ≡ n = same_Some a n (subst (λ b. first (cond b (a ∷ numbers_from (suc a) test xs) (numbers_from (suc a) test xs)) ≡ Some n) e h) in (0, omega arith, x, refl, e)
      | inr e ↦ let r = first_passes test (suc a) xs n (subst (λ b. first (cond b (a ∷ numbers_from (suc a) test xs) (numbers_from (suc a) test xs)) ≡ Some n) e h) in
          let is : n ≡ suc a + r.0 = r.1 in
          (suc r.0, omega arith, r.2, r.3, r.4)
    ]

-- a free number has a free entry
pub free_entry : (xs : List Number) (n : ℕ) → first (numbers_where is_free xs) ≡ Some n → (e : Number) × (entry_of n xs ≡ Some e) × (is_free e ≡ true)
free_entry xs n h =
    let r = first_passes is_free 1 xs n h in
    let is : suc r.0 ≡ n = (let at : n ≡ 1 + r.0 = r.1 in omega arith) in
    (r.2, subst (λ (m : ℕ). entry_of m xs ≡ Some r.2) is r.3, r.4)

-- and a generation left
pub free_is_unspent : (xs : List Number) (n : ℕ) → first (numbers_where is_free xs) ≡ Some n → last_of n xs < 255
free_is_unspent xs n h =
    let r = free_entry xs n h in
    let low : r.0.last < 255 = ltb-true r.0.last 255 (and_parts (is_none r.0.calc) (nat_lt r.0.last 255) r.2).1 in
    rw (r.1) low
