-- A line is printed in strips, one below another: the letters are folded, and so is the statement's text.
use Rattle.std.specs.Prelude.{ℕ, zero, suc, ◌-◌, ◌==◌, Bool, false, not, ◌&&◌, ◌||◌, nat_le, nat_lt, List, [], ◌∷◌, ◌++◌, Option, Some, None, length, map, if◌then◌else◌, slice_get, slice_set, unwrap_or}
use Rattle.std.specs.List.{flat_map, prefix_len, range_with_len}
use Rattle.dbtg_timeline.specs.declared.lines.Line.{Line}
use Rattle.dbtg_timeline.specs.declared.strips.Front.{Front}
use Rattle.dbtg_timeline.specs.declared.strips.Strip.{Strip}
use Rattle.dbtg_timeline.specs.Lines.{below_of, drawn, label, last_of, letters}
use Rattle.dbtg_timeline.specs.Marks.{is_begin}

-- ---- folding

-- how many bytes come before the next space
abbrev pub word_length : List ℕ → ℕ
word_length text = prefix_len (λ b. not (b == 32)) text

-- a part of this many bytes, if it is not empty, ends before these: it is full, or they begin with a space and a word that does not fit
abbrev pub ends : ℕ → ℕ → List ℕ → Bool
ends width count [] = false
ends width count (b ∷ bs) = count == width || (b == 32 && (nat_lt 0 count && nat_le (width - count) (word_length bs)))

-- the last part, if there is anything in it
abbrev pub last_part : List ℕ → List (List ℕ)
last_part [] = []
last_part (b ∷ bs) = (b ∷ bs) ∷ []

-- the parts of a text, after the beginning of a part
abbrev pub folded_from : ℕ → List ℕ → List ℕ → List (List ℕ)
folded_from width part [] = last_part part
folded_from width part (b ∷ bs) = if ends width (length part) (b ∷ bs) then part ∷ folded_from width (b ∷ []) bs else folded_from width (part ++ b ∷ []) bs

-- the parts of a text, each of at most this many bytes
abbrev pub folded : ℕ → List ℕ → List (List ℕ)
folded width text = folded_from width [] text

-- ---- strips

-- what a strip shows of these parts; nothing after the last
abbrev pub part_at : List (List ℕ) → ℕ → List ℕ
part_at parts i = unwrap_or (slice_get parts i) []

-- only the first strip shows move, ticket and status
abbrev pub front_of : Line → ℕ → Option Front
front_of l zero = Some (record { first = l.first; drawn = drawn l })
front_of l (suc i) = None

-- strip i of a line, by the parts of its letters and those of its statement
abbrev pub strip_at : Line → List (List ℕ) → List (List ℕ) → ℕ → Strip
strip_at l letters words i = record {
  front = front_of l i;
  unit = l.head.unit;
  begins = i == 0 && is_begin l.head.mark;
  midway = (last_of l).midway;
  letters = part_at letters i;
  words = part_at words i;
}

-- the larger of two numbers
abbrev pub larger : ℕ → ℕ → ℕ
larger m n = if nat_lt m n then n else m

-- as many strips as the letters and the statement need
abbrev pub strips_by : Line → List (List ℕ) → List (List ℕ) → List Strip
strips_by l letters words = map (strip_at l letters words) (range_with_len 0 (larger (length letters) (length words)))

-- the statement of a line, and what stands below it
abbrev pub words_of : List (List (List ℕ)) → Line → List (List ℕ)
words_of scripts l = folded 42 (label scripts l.head.unit l.head.place) ++ folded 42 (below_of l)

-- the strips of a line: 32 letters beside 42 bytes of words
abbrev pub strips_of : List (List (List ℕ)) → Line → List Strip
strips_of scripts l = strips_by l (folded 32 (letters l)) (words_of scripts l)

-- those of all lines
abbrev pub strips : List (List (List ℕ)) → List Line → List Strip
strips scripts lines = flat_map (strips_of scripts) lines

-- ---- lanes

-- the units in mid-statement, by their numbers from 1, with or without this one
abbrev pub with_lane : List Bool → ℕ → Bool → List Bool
with_lane lanes zero midway = lanes
with_lane lanes (suc i) midway = slice_set lanes i midway

-- which units are in mid-statement after the line of a strip
abbrev pub after_strip : List Bool → Strip → List Bool
after_strip lanes s = with_lane lanes s.unit s.midway
