-- The words of a moves file, and of a turns file; the moves of a moves file.
use Rattle.std.specs.Prelude.{◌≡◌, ℕ, ◌+◌, ◌-◌, Bool, false, not, ◌&&◌, ◌||◌, ◌==◌, nat_le, nat_lt, List, [], ◌∷◌, ◌++◌, map, Option, Some, None, if◌then◌else◌, replicate}
use Rattle.dbtg_schema.specs.Lookups.{first}
use Rattle.dbtg_unit.specs.declared.moves.Move.{Move}
use Rattle.dbtg_unit.specs.declared.moves.Move.TheVariants.{Step, Quit}
use Rattle.dbtg_script.specs.declared.limits.TheConstants.{MOST_MOVES}
use Rattle.dbtg_script.specs.declared.moves.MovesCause.{MovesCause}
use Rattle.dbtg_script.specs.declared.moves.MovesCause.TheVariants.{NotAMove, TooManyMoves}
use Rattle.dbtg_script.specs.declared.moves.MovesFault.{MovesFault}
use Rattle.dbtg_script.specs.declared.moves.MovesFault.TheVariants.{Refused, Memory}
use Rattle.dbtg_script.specs.Printing.Spelling.{is_number, number, in_front, behind, has_byte}

-- space, tab, line feed and carriage return separate words
abbrev pub is_gap : ℕ → Bool
is_gap b = b == 32 || b == 9 || b == 10 || b == 13

-- the byte goes onto the word that follows it directly
unfoldable pub onto_word : ℕ → List ℕ → List (List ℕ) → List (List ℕ)
onto_word b [] ws = (b ∷ []) ∷ ws
onto_word b (c ∷ cs) [] = (b ∷ []) ∷ []
onto_word b (c ∷ cs) (w ∷ ws) = if is_gap c then (b ∷ []) ∷ w ∷ ws else (b ∷ w) ∷ ws

-- the words of a text, with gaps between them
unfoldable pub words : List ℕ → List (List ℕ)
words [] = []
words (b ∷ bs) = if is_gap b then words bs else onto_word b bs (words bs)

-- the first byte of the word is c
abbrev pub begins_with : ℕ → List ℕ → Bool
begins_with c [] = false
begins_with c (b ∷ bs) = b == c

-- digits without a leading zero, up to the greatest that is allowed
abbrev pub plain_number : ℕ → List ℕ → Option ℕ
plain_number most t = if is_number t && not (begins_with 48 t) && nat_le (number t) most then Some (number t) else None

-- an entry that a word says, and how often: here a unit
abbrev pub times : Option ℕ → ℕ → Option (ℕ × ℕ)
times None k = None
times (Some u) k = Some (u, k)

-- the unit that the text names, as many times as the number says
abbrev pub counted : List ℕ → Option ℕ → Option (ℕ × ℕ)
counted t None = None
counted t (Some k) = times (plain_number 99 t) k

-- u*k or u: a unit, and how many turns it has
abbrev pub spelled_turn : List ℕ → Option (ℕ × ℕ)
spelled_turn t =
    if has_byte 42 t then counted (in_front 42 t) (plain_number MOST_MOVES (behind 42 t))
    else times (plain_number 99 t) 1

-- the quit of a unit, once
abbrev pub quit_of : Option ℕ → Option (Move × ℕ)
quit_of None = None
quit_of (Some u) = Some (Quit u, 1)

-- the steps of a unit, and how many
abbrev pub steps_of : Option (ℕ × ℕ) → Option (Move × ℕ)
steps_of None = None
steps_of (Some r) = Some (Step r.0, r.1)

-- Qu, u*k or u: a move, and how often it is made
abbrev pub spelled_move : List ℕ → Option (Move × ℕ)
spelled_move t = if begins_with 81 t then quit_of (plain_number 99 (behind 81 t)) else steps_of (spelled_turn t)

-- the entry that a word denotes, repeated as often as its count
abbrev pub repeated : {A : Type 0} → Option (A × ℕ) → List A
repeated None = []
repeated (Some m) = replicate m.1 m.0

-- all that words say, one after the other
abbrev pub said : {A : Type 0} → List (Option (A × ℕ)) → List A
said [] = []
said (s ∷ ss) = repeated s ++ said ss

-- the moves that words say
abbrev pub moves_of : List (List ℕ) → List Move
moves_of ws = said (map spelled_move ws)

-- how many entries there are with those of a word
abbrev pub total_after : {A : Type 0} → ℕ → Option (A × ℕ) → ℕ
total_after total None = total
total_after total (Some m) = total + m.1

-- what is wrong with a word after `total` entries: it has another shape, or it brings the total over 1,000,000
abbrev pub word_faults : {A : Type 0} → ℕ → Option (A × ℕ) → List MovesCause
word_faults total None = NotAMove ∷ []
word_faults total (Some m) = if nat_lt MOST_MOVES (total + m.1) then TooManyMoves ∷ [] else []

-- every fault of words after `total` entries. The first word has this number; a fault has its word's number and its cause
abbrev pub faults_from : {A : Type 0} → ℕ → ℕ → List (Option (A × ℕ)) → List (ℕ × MovesCause)
faults_from total number [] = []
faults_from total number (s ∷ ss) = map (λ c. (number, c)) (word_faults total s) ++ faults_from (total_after total s) (number + 1) ss

-- the first of these faults
unfoldable pub refused_word : {A : Type 0} → ℕ → ℕ → List (Option (A × ℕ)) → Option (ℕ × MovesCause)
refused_word total number ss = first (faults_from total number ss)

-- the first fault of a moves file: the number of the word, and its cause
abbrev pub refusal : List ℕ → Option (ℕ × MovesCause)
refusal text = refused_word 0 1 (map spelled_move (words text))

-- the moves are refused with this fault, unless memory ran out
abbrev pub Refuses : MovesFault → Option (ℕ × MovesCause) → Type 0
Refuses Memory v = Unit {0}
Refuses (Refused word cause) v = v ≡ Some (word, cause)

-- a text whose first word has another shape is refused for that, even without memory
abbrev pub RefusedAtOnce : {A : Type 0} → (List ℕ → Option (A × ℕ)) → List ℕ → Type 0 → Type 0
RefusedAtOnce spelled text Told = (w : List ℕ) (ws : List (List ℕ)) → words text ≡ w ∷ ws → spelled w ≡ None → Told

-- the numbers by which causes are printed
abbrev pub cause_number : MovesCause → ℕ
cause_number NotAMove = 1
cause_number TooManyMoves = 2
