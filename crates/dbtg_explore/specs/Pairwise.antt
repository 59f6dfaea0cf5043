-- Lists whose elements are pairwise in a relation.
use Rattle.std.specs.Prelude.{List, [], ◌∷◌, Contains, ⊤}

-- each element is in the relation to all that follow it
abbrev pub ArePairwise : {X : Type 0} → (X → X → Type 0) → List X → Type 0
ArePairwise R [] = ⊤
ArePairwise {X} R (x ∷ xs) = ((y : X) → Contains xs y → R x y) × ArePairwise R xs
