-- Guesses over which true owners are put, one set after another.
use Rattle.std.proofs.Common.{ℕ, zero, suc, ◌≡◌, List, [], ◌∷◌, ◌++◌, Option, Some, drop, take, length, slice_get, slice_set, sym, ap, arith}
use Rattle.std.specs.Option.{option_or}
use Rattle.dbtg_cells.specs.declared.key.Owner.{Owner}
use Rattle.dbtg_unit.specs.Hands.Guesses.{with_owners}

-- guesses with owners put over them up to a set, and then at it, have them one set further
pub owners_put_further : (i : ℕ) (gs os : List (Option Owner)) (g o : Option Owner) → length gs ≡ length os → slice_get gs i ≡ Some g → slice_get (with_owners (take i gs) (take i os) ++ drop i os) i ≡ Some o →
    slice_set (with_owners (take i gs) (take i os) ++ drop i os) i (option_or o g) ≡ with_owners (take (suc i) gs) (take (suc i) os) ++ drop (suc i) os
owners_put_further i [] os g o l e f = absurd (cc (e))
owners_put_further i (h ∷ gs) [] g o l e f = absurd (omega arith)
owners_put_further zero (h ∷ gs) (p ∷ os) g o l e f = let same : h ≡ g = cc (e) in let also : p ≡ o = cc (f) in λ i. option_or (sym also i) (sym same i) ∷ os
owners_put_further (suc i) (h ∷ gs) (p ∷ os) g o l e f = ap (λ xs. option_or p h ∷ xs) (owners_put_further i gs os g o (omega arith) e f)
