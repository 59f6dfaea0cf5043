-- The parts of a line of a trace: a unit and a colon, a line of a script, an arrow, an answer.
use Rattle.std.specs.Prelude.{ℕ, suc, ◌+◌, Bool, false, not, ◌&&◌, ◌==◌, nat_le, nat_lt, List, [], ◌∷◌, Option, Some, None, if◌then◌else◌, option_map, drop, take}
use Rattle.dbtg_script.specs.Lines.{without_last}
use Rattle.dbtg_script.specs.Moves.{begins_with}
use Rattle.dbtg_script.specs.Printing.Spelling.{behind, has_byte, in_front, is_number, number}

-- there is a unit with this number
abbrev pub is_unit : ℕ → ℕ → Bool
is_unit units u = nat_lt 0 u && nat_le u units

-- the unit that the digits before the first colon name, if there is such a unit
abbrev pub unit_named : ℕ → List ℕ → Option ℕ
unit_named units line =
    if has_byte 58 line && is_number (in_front 58 line) && is_unit units (number (in_front 58 line)) then Some (number (in_front 58 line)) else None

-- the bytes begin with =>
abbrev pub begins_arrow : List ℕ → Bool
begins_arrow [] = false
begins_arrow (b ∷ bs) = b == 61 && begins_with 62 bs

-- how many bytes come before the first arrow outside of texts; the flag says that the bytes begin in a text
unfoldable pub arrow_at : Bool → List ℕ → Option ℕ
arrow_at inside [] = None
arrow_at inside (b ∷ bs) =
    if not inside && begins_arrow (b ∷ bs) then Some 0 else option_map suc (arrow_at (if b == 34 then not inside else inside) bs)

-- the bytes without one leading space, if there is one
abbrev pub without_space : List ℕ → List ℕ
without_space [] = []
without_space (b ∷ bs) = if b == 32 then bs else b ∷ bs

-- both sides of the arrow, without the colon and one space on each side of the statement
abbrev pub sides : List ℕ → Option (List ℕ × List ℕ)
sides rest = option_map (λ n. (without_last 32 (without_space (take n rest)), drop (n + 2) rest)) (arrow_at false rest)

-- the statement and the answer of a line, if it has an arrow after its unit
abbrev pub halves : List ℕ → Option (List ℕ × List ℕ)
halves line = sides (behind 58 line)
