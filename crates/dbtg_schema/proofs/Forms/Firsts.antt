-- The first of two lists of faults, one after the other.
use Rattle.std.proofs.Common.{◌≡◌, List, [], ◌∷◌, ◌++◌, Some, None, refl}
use Rattle.dbtg_schema.specs.Lookups.{first}
use Rattle.dbtg_schema.specs.declared.fault.Fault.{Fault}

pub first_then : (xs ys : List Fault) (f : Fault) → first xs ≡ Some f → first (xs ++ ys) ≡ Some f
first_then [] ys f h = absurd cc
first_then (x ∷ xs) ys f h = h

pub first_else : (xs ys : List Fault) → first xs ≡ None → first (xs ++ ys) ≡ first ys
first_else [] ys h = refl
first_else (x ∷ xs) ys h = absurd cc

pub ruleset first_steps = (first_then, first_else)

-- a list without a first is empty
pub none_at_all : {X : Type 0} (xs : List X) → first xs ≡ None → xs ≡ []
none_at_all [] e = refl
none_at_all (x ∷ xs) e = absurd (cc (e))
