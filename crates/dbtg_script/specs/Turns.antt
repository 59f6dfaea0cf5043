-- The turns of a turns file: words as in a moves file, but no quits.
use Rattle.std.specs.Prelude.{◌≡◌, ℕ, List, map, Option, Some}
use Rattle.dbtg_script.specs.declared.moves.MovesCause.{MovesCause}
use Rattle.dbtg_script.specs.declared.turns.TurnsFault.{TurnsFault}
use Rattle.dbtg_script.specs.declared.turns.TurnsFault.TheVariants as turns_fault
use Rattle.dbtg_script.specs.Moves.{words, spelled_turn, said, refused_word}

-- the units that words say, in the order of their turns
abbrev pub turns_of : List (List ℕ) → List ℕ
turns_of ws = said (map spelled_turn ws)

-- the first fault of a text, judged as one of moves
abbrev pub turns_refusal : List ℕ → Option (ℕ × MovesCause)
turns_refusal text = refused_word 0 1 (map spelled_turn (words text))

-- the turns are refused with this fault, unless memory ran out
abbrev pub RefusesTurns : TurnsFault → Option (ℕ × MovesCause) → Type 0
RefusesTurns turns_fault.Memory v = Unit {0}
RefusesTurns (turns_fault.Refused word cause) v = v ≡ Some (word, cause)
