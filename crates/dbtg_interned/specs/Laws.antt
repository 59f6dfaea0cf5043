-- What holds of arrays that are kept once.
use Rattle.std.specs.Prelude.{ℕ, ◌≡◌}
use Rattle.dbtg_interned.specs.Arrays.{KeptArrays, AreArrays, Grows, IsArray, elements}

-- two arrays with the same elements have one number
abbrev pub EqualAreOne : KeptArrays → Type 0
EqualAreOne arrays = (a b : ℕ) → AreArrays arrays → IsArray arrays a → IsArray arrays b → elements arrays a ≡ elements arrays b → a ≡ b

-- an array stays one, with the same elements, when others are added
abbrev pub StayAsTheyAre : KeptArrays → KeptArrays → Type 0
StayAsTheyAre old new = (a : ℕ) → Grows old new → IsArray old a → IsArray new a × (elements new a ≡ elements old a)
