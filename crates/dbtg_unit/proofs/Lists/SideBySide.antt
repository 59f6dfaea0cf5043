-- Two lists side by side.
use Rattle.std.proofs.Common.{◌≡◌, refl, ℕ, zero, suc, ◌+◌, List, [], ◌∷◌, Some, None, drop, arith}
use Rattle.std.specs.Prelude.{slice_get}

pub drop_some : {X : Type 0} (xs : List X) (i : ℕ) (x : X) → slice_get xs i ≡ Some x → drop i xs ≡ x ∷ drop (i + 1) xs
drop_some [] i x h = cc
drop_some (y ∷ ys) zero x h = cc
drop_some (y ∷ ys) (suc i) x h = let next : suc i + 1 ≡ suc (i + 1) = omega arith in rw next (drop_some ys i x h)

pub drop_none : {X : Type 0} (xs : List X) (i : ℕ) → slice_get xs i ≡ None → drop i xs ≡ []
drop_none [] zero h = refl
drop_none [] (suc i) h = refl
drop_none (y ∷ ys) zero h = cc
drop_none (y ∷ ys) (suc i) h = drop_none ys i h
