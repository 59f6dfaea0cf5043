-- Numbers from 0 up, one after another.
use Rattle.std.proofs.Common.{◌≡◌, refl, ℕ, zero, suc, ◌+◌, ◌<◌, ◌≤◌, [], ◌∷◌, drop, subst, arith}
use Rattle.std.specs.List.{range_with_len}

numbers_from : (a n i : ℕ) → i < n → drop i (range_with_len a n) ≡ (a + i) ∷ drop (i + 1) (range_with_len a n)
numbers_from a zero i h = absurd (omega arith)
numbers_from a (suc n) zero h = let z : a + 0 ≡ a = omega arith in rw z refl
numbers_from a (suc n) (suc i) h =
    let z : a + suc i ≡ (a + 1) + i = omega arith in
    let y : suc i + 1 ≡ suc (i + 1) = omega arith in
    rw (z, y) (numbers_from (a + 1) n i (omega arith))

-- the next number
pub numbers_next : (n i : ℕ) → i < n → drop i (range_with_len 0 n) ≡ i ∷ drop (i + 1) (range_with_len 0 n)
numbers_next n i h = let z : 0 + i ≡ i = omega arith in subst (λ (k : ℕ). drop i (range_with_len 0 n) ≡ k ∷ drop (i + 1) (range_with_len 0 n)) z (numbers_from 0 n i h)

past : (a n i : ℕ) → n ≤ i → drop i (range_with_len a n) ≡ []
past a zero zero h = refl
past a zero (suc i) h = refl
past a (suc n) zero h = absurd (omega arith)
past a (suc n) (suc i) h = past (a + 1) n i (omega arith)

-- none is left
pub numbers_end : (n i : ℕ) → n ≤ i → drop i (range_with_len 0 n) ≡ []
numbers_end n i h = past 0 n i h
