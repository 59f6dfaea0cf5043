-- What is said of files. No definition knows the contents of a file: `has` says that reading this many bytes of a path gave a text, `lacks`
-- that it gave none. Both are what the reader of files says.
use Rattle.std.specs.Prelude.{ℕ, ◌≡◌, ◌⊎◌, ◌==◌, ◌&&◌, not, Bool, true, false, List, is_none, length, string_bytes}
use Rattle.dbtg_script.specs.Moves.{refusal as moves_refusal}
use Rattle.dbtg_script.specs.Turns.{turns_refusal}
use Rattle.dbtg_command.specs.declared.fault.Fault.{Fault}
use Rattle.dbtg_command.specs.declared.fault.Fault.TheVariants.{Schema as InSchema, Script as InScript, Moves as InMoves, Turns as InTurns, Trace as InTrace, MovesOver, StatesOver, Unreadable, ScriptCount, Memory, Program as InProgram}
use Rattle.dbtg_command.specs.declared.order.Order.{Order}
use Rattle.dbtg_command.specs.declared.place.TextPlace.{TextPlace}
use Rattle.dbtg_command.specs.declared.place.TextPlace.TheVariants.{Schema, Script, Moves, Turns, Trace}
use Rattle.dbtg_command.specs.Inside.Sources.{StandsIn}

-- at most this much of a file is read: a byte more than a schema, a script or a trace may have; moves and turns to their end
abbrev pub most_of : TextPlace → ℕ
most_of Schema = 65537
most_of (Script n) = 1048577
most_of Moves = 18446744073709551615
most_of Turns = 18446744073709551615
most_of Trace = 67108865

-- the file with this path cannot be read, or memory ran out
abbrev pub IsUnread : List ℕ → Fault → Type 0
IsUnread path (Unreadable told) = string_bytes told ≡ path
IsUnread path Memory = Unit {0}
IsUnread path (InSchema line cause) = ⊥
IsUnread path (InScript n line cause) = ⊥
IsUnread path (InProgram n line cause) = ⊥
IsUnread path (InMoves word cause) = ⊥
IsUnread path (InTurns word cause) = ⊥
IsUnread path (InTrace line cause) = ⊥
IsUnread path MovesOver = ⊥
IsUnread path (StatesOver limit) = ⊥
IsUnread path ScriptCount = ⊥

-- the word is itself what is wanted in this place: moves or turns, at least one of them
abbrev pub says_order : TextPlace → List ℕ → Bool
says_order Schema word = false
says_order (Script n) word = false
says_order Moves word = not (length word == 0) && is_none (moves_refusal word)
says_order Turns word = not (length word == 0) && is_none (turns_refusal word)
says_order Trace word = false

-- the file with this path gave this text; or it gave none, and the path itself is the text
abbrev pub GivesOrder : (List ℕ → ℕ → List ℕ → Type 0) → (List ℕ → ℕ → Type 0) → TextPlace → List ℕ → List ℕ → Type 0
GivesOrder has lacks place path text = has path (most_of place) text ⊎ (lacks path (most_of place) × (says_order place path ≡ true) × (text ≡ path))

-- what a path gives in this place: the text of its file; for moves and turns perhaps itself
abbrev pub Gives : (List ℕ → ℕ → List ℕ → Type 0) → (List ℕ → ℕ → Type 0) → TextPlace → List ℕ → List ℕ → Type 0
Gives has lacks Schema path text = has path (most_of Schema) text
Gives has lacks (Script n) path text = has path (most_of (Script n)) text
Gives has lacks Moves path text = GivesOrder has lacks Moves path text
Gives has lacks Turns path text = GivesOrder has lacks Turns path text
Gives has lacks Trace path text = has path (most_of Trace) text

-- the path that stands in this place gave this text
abbrev pub FileHolds : (List ℕ → ℕ → List ℕ → Type 0) → (List ℕ → ℕ → Type 0) → List ℕ → List (List ℕ) → Order (List ℕ) → TextPlace → List ℕ → Type 0
FileHolds has lacks schema scripts order place text = (path : List ℕ) × StandsIn schema scripts order place path × Gives has lacks place path text

-- the file that is named in this place gave no text, and the fault says so
abbrev pub FileFails : (List ℕ → ℕ → Type 0) → List ℕ → List (List ℕ) → Order (List ℕ) → TextPlace → Fault → Type 0
FileFails lacks schema scripts order place fault = (path : List ℕ) × StandsIn schema scripts order place path × lacks path (most_of place) × IsUnread path fault
