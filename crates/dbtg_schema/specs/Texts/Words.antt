-- The words of a text, each with its line.
use Rattle.std.specs.Prelude.{ℕ, ◌+◌, Bool, not, ◌&&◌, ◌||◌, List, [], ◌∷◌, ◌==◌, if◌then◌else◌, codes, filter}
use Rattle.std.specs.Str.{bytes_eq}

-- a word with the line on which it begins
pub record Word : Type 0 where
  pub text : List ℕ
  pub line : ℕ

-- space, tab, carriage return, line feed, comma and semicolon separate words
abbrev pub is_gap : ℕ → Bool
is_gap b = b == 32 || b == 9 || b == 13 || b == 10 || b == 44 || b == 59

-- a byte that belongs to a word
abbrev pub is_letter : ℕ → Bool
is_letter b = not (is_gap b) && not (b == 46)

-- the line after a byte
abbrev pub line_after : ℕ → ℕ → ℕ
line_after b line = if b == 10 then line + 1 else line

-- the byte belongs to the word that follows it directly, otherwise it is a word
unfoldable pub onto : ℕ → ℕ → List ℕ → List Word → List Word
onto b line [] ws = record { text = b ∷ []; line = line } ∷ ws
onto b line (c ∷ cs) [] = record { text = b ∷ []; line = line } ∷ []
onto b line (c ∷ cs) (w ∷ ws) =
    if is_letter c then record w { text = b ∷ w.text } ∷ ws else record { text = b ∷ []; line = line } ∷ w ∷ ws

-- the words of a text that begins on this line
unfoldable pub words : ℕ → List ℕ → List Word
words line [] = []
words line (b ∷ bs) =
    if is_gap b then words (line_after b line) bs
    else (if b == 46 then record { text = 46 ∷ []; line = line } ∷ words line bs
    else onto b line bs (words line bs))

-- IS and ARE have no meaning
abbrev pub is_noise : Word → Bool
is_noise w = bytes_eq w.text (codes "IS") || bytes_eq w.text (codes "ARE")

-- the words of a text that the grammar sees
abbrev pub text_words : List ℕ → List Word
text_words text = filter (λ w. not (is_noise w)) (words 1 text)

-- the line of the end of a text: a final line feed begins no line
abbrev pub last_line : List ℕ → ℕ
last_line [] = 1
last_line (b ∷ []) = 1
last_line (b ∷ c ∷ bs) = (if b == 10 then 1 else 0) + last_line (c ∷ bs)
