-- Moves and turns as texts that are read back.
use Rattle.std.specs.Prelude.{ℕ, ◌+◌, Bool, false, ◌==◌, List, [], ◌∷◌, ◌++◌, map, if◌then◌else◌, decimal}
use Rattle.dbtg_unit.specs.declared.moves.Move.{Move}
use Rattle.dbtg_unit.specs.declared.moves.Move.TheVariants.{Step, Quit}

-- steps of one unit share a word, quits do not
abbrev pub in_one_word : Move → Move → Bool
in_one_word (Step u) (Step v) = u == v
in_one_word (Step u) (Quit v) = false
in_one_word (Quit u) n = false

-- adds a move at the beginning: to the first word if it can share that, otherwise as a word of its own
abbrev pub onto_run : Move → List (Move × ℕ) → List (Move × ℕ)
onto_run m [] = (m, 1) ∷ []
onto_run m (r ∷ rs) = if in_one_word m r.0 then (m, 1 + r.1) ∷ rs else (m, 1) ∷ r ∷ rs

-- the moves of each word, and how often it has them
abbrev pub runs : List Move → List (Move × ℕ)
runs [] = []
runs (m ∷ ms) = onto_run m (runs ms)

-- nothing if it is once
abbrev pub times_text : ℕ → List ℕ
times_text k = if k == 1 then [] else 42 ∷ decimal k

-- u, u*k, or Qu
abbrev pub move_word : Move → ℕ → List ℕ
move_word (Step u) k = decimal u ++ times_text k
move_word (Quit u) k = 81 ∷ decimal u

-- the words of these runs of moves
abbrev pub run_words : List (Move × ℕ) → List (List ℕ)
run_words rs = map (λ r. move_word r.0 r.1) rs

-- a space after a word, a line feed after the last
abbrev pub gap_before : List (List ℕ) → ℕ
gap_before [] = 10
gap_before (w ∷ ws) = 32

-- the words in one line
abbrev pub line_of : List (List ℕ) → List ℕ
line_of [] = []
line_of (w ∷ ws) = w ++ gap_before ws ∷ line_of ws

-- the moves as the line of a moves file
abbrev pub moves_words_text : List Move → List ℕ
moves_words_text ms = line_of (run_words (runs ms))

-- the text of a step for each turn
abbrev pub turns_text : List ℕ → List ℕ
turns_text us = moves_words_text (map Step us)
