-- The lines of a script.
use Rattle.std.specs.Prelude.{ℕ, Bool, false, not, ◌&&◌, ◌==◌, nat_le, nat_lt, ◌-◌, slice_index, take, List, [], ◌∷◌, filter, length, map, if◌then◌else◌}
use Rattle.std.specs.List.{list_all}

-- the byte belongs to the line that it is in
abbrev pub onto_line : ℕ → List (List ℕ) → List (List ℕ)
onto_line b [] = (b ∷ []) ∷ []
onto_line b (l ∷ ls) = (b ∷ l) ∷ ls

-- a line ends at a line feed, or at the end of the text
unfoldable pub lines : List ℕ → List (List ℕ)
lines [] = []
lines (b ∷ bs) = if b == 10 then [] ∷ lines bs else onto_line b (lines bs)

-- the last byte of the line is c
abbrev pub ends_with : ℕ → List ℕ → Bool
ends_with c line = nat_lt 0 (length line) && slice_index line (length line - 1) == c

-- the line without its last byte, if that is c
abbrev pub without_last : ℕ → List ℕ → List ℕ
without_last c line = if ends_with c line then take (length line - 1) line else line

-- without the carriage return at its end, and then without the period
abbrev pub trimmed : List ℕ → List ℕ
trimmed line = without_last 46 (without_last 13 line)

-- a line that begins with an asterisk
abbrev pub is_comment : List ℕ → Bool
is_comment [] = false
is_comment (b ∷ bs) = b == 42

-- neither a comment nor only spaces
abbrev pub is_statement : List ℕ → Bool
is_statement line = not (is_comment line) && not (list_all (λ b. b == 32) line)

-- all bytes are printable ASCII
abbrev pub is_printable : List ℕ → Bool
is_printable line = list_all (λ b. nat_le 32 b && nat_le b 126) line

-- and there are at most 1,000 of them
abbrev pub is_allowed : List ℕ → Bool
is_allowed line = is_printable line && nat_le (length line) 1000

-- does the line end inside a text literal? The flag says that it begins in one
abbrev pub ends_in_text : Bool → List ℕ → Bool
ends_in_text inside [] = inside
ends_in_text inside (b ∷ bs) = ends_in_text (if b == 34 then not inside else inside) bs

-- the lines of a script that hold a statement, trimmed, in their order
abbrev pub statement_lines : List ℕ → List (List ℕ)
statement_lines text = filter is_statement (map trimmed (lines text))

-- only whole lines: the last byte, if there is one, is a line feed. The flag says whether that holds for what comes before
abbrev pub closes : Bool → List ℕ → Bool
closes closed [] = closed
closes closed (b ∷ bs) = closes (b == 10) bs
