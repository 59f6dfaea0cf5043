-- The first of two lists, one after the other.
use Rattle.std.proofs.Common.{◌≡◌, List, [], ◌∷◌, ◌++◌, Some, None, refl}
use Rattle.dbtg_schema.specs.Lookups.{first}

pub first_then : {X : Type 0} (xs ys : List X) (f : X) → first xs ≡ Some f → first (xs ++ ys) ≡ Some f
first_then [] ys f h = absurd cc
first_then (x ∷ xs) ys f h = h

pub first_else : {X : Type 0} (xs ys : List X) → first xs ≡ None → first (xs ++ ys) ≡ first ys
first_else [] ys h = refl
first_else (x ∷ xs) ys h = absurd cc

pub ruleset first_steps = (first_then, first_else)
