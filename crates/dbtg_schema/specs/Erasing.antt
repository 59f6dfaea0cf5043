-- Marks by number.
use Rattle.std.specs.Prelude.{ℕ, Bool, false, List, slice_index_or}

-- the number n is marked
abbrev pub marked : List Bool → ℕ → Bool
marked marks n = slice_index_or marks n false
