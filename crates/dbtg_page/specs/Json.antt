-- The data of a page as JSON: a list of rows, each a list of strings. The first string says of which kind the row is.
use Rattle.std.specs.Prelude.{ℕ, ◌+◌, ◌/◌, ◌%◌, ◌==◌, Bool, ◌||◌, nat_lt, List, [], ◌∷◌, ◌++◌, codes, if◌then◌else◌}
use Rattle.std.specs.List.{flat_map}

-- the hexadecimal digit of a number below 16
abbrev pub digit : ℕ → ℕ
digit n = if nat_lt n 10 then 48 + n else 87 + n

-- a byte that JSON does not take as it is: not printable ASCII, or <, which could end the data in a page
abbrev pub is_escaped : ℕ → Bool
is_escaped b = nat_lt b 32 || (nat_lt 126 b || (b == 34 || (b == 60 || b == 92)))

-- a byte of a string: itself, or \u00 and its two digits
abbrev pub byte_text : ℕ → List ℕ
byte_text b = if is_escaped b then codes "\\u00" ++ digit (b / 16) ∷ digit (b % 16) ∷ [] else b ∷ []

-- a string
unfoldable pub quoted : List ℕ → List ℕ
quoted text = 34 ∷ flat_map byte_text text ++ 34 ∷ []

-- a string after another
unfoldable pub field : List ℕ → List ℕ
field text = 44 ∷ quoted text

-- a row of this kind, and the comma before the next
unfoldable pub row : List ℕ → List (List ℕ) → List ℕ
row kind fields = 91 ∷ quoted kind ++ flat_map field fields ++ codes "],\n"
