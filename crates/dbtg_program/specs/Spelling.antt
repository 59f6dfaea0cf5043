-- How the words of a statement are spelled, as a script has them.
use Rattle.std.specs.Prelude.{ℕ, List, [], ◌∷◌, ◌++◌}
use Rattle.dbtg_script.specs.Tokens.{Token, plain, equals, literal}

-- a word; the bytes of a text stand between quotes
abbrev pub word_text : Token → List ℕ
word_text (plain t) = t
word_text equals = 61 ∷ []
word_text (literal t) = 34 ∷ t ++ 34 ∷ []

-- words with a space in front of each
abbrev pub words_behind : List Token → List ℕ
words_behind [] = []
words_behind (w ∷ ws) = 32 ∷ word_text w ++ words_behind ws

-- words with a space between two of them
abbrev pub words_text : List Token → List ℕ
words_text [] = []
words_text (w ∷ ws) = word_text w ++ words_behind ws
