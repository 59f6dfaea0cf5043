-- The word of a schema's text that has the fault: the text is laid out with each word on a line of its own, so the line of
-- its refusal says the word.
use Rattle.std.specs.Prelude.{ℕ, zero, suc, ◌-◌, not, codes, find, length, unwrap_or, ◌==◌, ◌&&◌, ◌||◌, nat_le, Bool, List, [], ◌∷◌, ◌++◌, Option, Some, None, if◌then◌else◌}
use Rattle.std.specs.List.{flat_map}
use Rattle.std.specs.Str.{bytes_eq}
use Rattle.dbtg_schema.specs.Texts.Causes.{cause_number}
use Rattle.dbtg_schema.specs.Texts.Words.{is_gap}
use Rattle.dbtg_schema.specs.declared.fault.Fault.{Fault}
use Rattle.dbtg_script.specs.Lines.{lines}
use Rattle.dbtg_script.specs.Printing.Spelling.{behind, in_front}

-- a byte between words ends a line, and a period stands alone
abbrev pub apart : ℕ → List ℕ
apart b = if b == 46 then 10 ∷ 46 ∷ 10 ∷ [] else (if is_gap b then 10 ∷ [] else b ∷ [])

-- the last line has no word
abbrev pub laid_out : List ℕ → List ℕ
laid_out text = flat_map apart text ++ 10 ∷ 10 ∷ []

-- what follows this many c
abbrev pub behind_all : ℕ → ℕ → List ℕ → List ℕ
behind_all c zero text = text
behind_all c (suc n) text = behind c (behind_all c n text)

-- the line of a refusal with this number; 0 for another refusal
abbrev pub line_in : ℕ → Option Fault → ℕ
line_in number None = 0
line_in number (Some fault) = if cause_number fault.cause == number then fault.line else 0

-- the line with this number, from 1
abbrev pub line_at : ℕ → List ℕ → List ℕ
line_at zero text = []
line_at (suc n) text = in_front 10 (behind_all 10 n text)

-- the faults of a whole entry, which are reported at its first word
abbrev pub is_of_entry : ℕ → Bool
is_of_entry n = nat_le 12 n && nat_le n 15 || n == 17

-- a word that stands before an entry's name
abbrev pub is_label : List ℕ → Bool
is_label word = length word == 0 || bytes_eq word (codes "MEMBER") || bytes_eq word (codes "RECORD") || bytes_eq word (codes "NAME") || bytes_eq word (codes "IS") || bytes_eq word (codes "ARE")

-- the name of the entry that begins with these words
abbrev pub entry_name : List (List ℕ) → Option (List ℕ)
entry_name words = find (λ word. not (is_label word)) words

-- the word that a fault on this line is about: for a whole entry its name, if it has one
abbrev pub faulty_word : ℕ → ℕ → List ℕ → List ℕ
faulty_word number line text =
    if line == 0 || not (is_of_entry number) then line_at line text
    else unwrap_or (entry_name (lines (behind_all 10 (line - 1) text))) (line_at line text)
