-- The first element of one list after another, and of a mapped list.
use Rattle.std.proofs.Common.{◌≡◌, List, [], ◌∷◌, ◌++◌, map, Some, None, refl}
use Rattle.std.specs.Prelude.{option_map}
use Rattle.dbtg_schema.specs.Lookups.{first}

pub first_then : {X : Type 0} (xs ys : List X) (f : X) → first xs ≡ Some f → first (xs ++ ys) ≡ Some f
first_then [] ys f h = absurd cc
first_then (x ∷ xs) ys f h = h

pub first_else : {X : Type 0} (xs ys : List X) → first xs ≡ None → first (xs ++ ys) ≡ first ys
first_else [] ys h = refl
first_else (x ∷ xs) ys h = absurd cc

pub first_of_map : {X Y : Type 0} (g : X → Y) (xs : List X) → first (map g xs) ≡ option_map g (first xs)
first_of_map g [] = refl
first_of_map g (x ∷ xs) = refl
