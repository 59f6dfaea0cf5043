-- Ascending lists.
use Rattle.std.proofs.Common.{◌≡◌, refl, ◌∙◌, ℕ, zero, suc, ◌+◌, ◌<◌, Bool, true, List, [], ◌∷◌, ◌++◌, inl, inr, arith}
use Rattle.std.specs.Prelude.{nat_lt}
use Rattle.std.specs.List.{list_all, range_with_len}
use Rattle.std.proofs.lemmas.Bool.{and_parts, and_from, lt-ltb}
use Rattle.std.proofs.lemmas.List.Folds.{list_all-append}
use Rattle.dbtg_unit.specs.Database.State.Legal.{pairwise}
use Rattle.dbtg_unit.proofs.Lists.Membership.{In}

above_range : (m a n : ℕ) → m < a → list_all (nat_lt m) (range_with_len a n) ≡ true
above_range m a zero h = refl
above_range m a (suc n) h = and_from _ _ (lt-ltb m a h) (above_range m (a + 1) n (omega arith))

pub ascending_range : (a n : ℕ) → pairwise nat_lt (range_with_len a n) ≡ true
ascending_range a zero = refl
ascending_range a (suc n) = and_from _ _ (above_range a (a + 1) n (omega arith)) (ascending_range (a + 1) n)

-- one ascending list behind another, each element of which is below
pub ascending_join : {X : Type 0} (lt : X → X → Bool) (xs ys : List X) → pairwise lt xs ≡ true → pairwise lt ys ≡ true → ((x : X) → In x xs → list_all (lt x) ys ≡ true) → pairwise lt (xs ++ ys) ≡ true
ascending_join lt [] ys h g f = g
ascending_join lt (x ∷ xs) ys h g f = let hs = and_parts _ _ h in and_from _ _ (list_all-append (lt x) xs ys ∙ and_from _ _ hs.0 (f x (inl refl))) (ascending_join lt xs ys hs.1 g (λ z i. f z (inr i)))
