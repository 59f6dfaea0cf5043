-- Whether a list of numbers is among others.
use Rattle.std.specs.Prelude.{ℕ, Bool, ◌||◌, false, List, [], ◌∷◌}
use Rattle.std.specs.Str.{bytes_eq}

-- one of the keys equals this one
abbrev pub among : List (List ℕ) → List ℕ → Bool
among [] k = false
among (j ∷ js) k = bytes_eq k j || among js k
