-- The files of a session that is saved.
use Rattle.std.specs.Prelude.{ℕ, zero, suc, List, [], ◌∷◌, ◌++◌, codes, decimal}

-- the paths of the scripts of units 1 to n
abbrev pub script_paths : List ℕ → ℕ → List (List ℕ)
script_paths directory zero = []
script_paths directory (suc n) = script_paths directory n ++ (directory ++ codes "/script." ++ decimal (suc n)) ∷ []

-- the same, and after them that of the turns
abbrev pub saved_paths : List ℕ → ℕ → List (List ℕ)
saved_paths directory units = script_paths directory units ++ (directory ++ codes "/turns") ∷ []
