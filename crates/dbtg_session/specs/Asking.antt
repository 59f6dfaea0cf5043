-- What a line of the shell asks for.
use Rattle.std.specs.Prelude.{ℕ, ◌^◌, ◌≡◌, min, Bool, true, false, ◌&&◌, ◌==◌, nat_le, nat_lt, List, [], ◌∷◌, codes, length, if◌then◌else◌}
use Rattle.std.specs.Str.{bytes_eq}
use Rattle.dbtg_script.specs.Printing.Spelling.{behind, in_front, is_number, number}
use Rattle.dbtg_session.specs.declared.asked.Asked.{Asked}
use Rattle.dbtg_session.specs.declared.asked.Asked.TheVariants.{Command, Statement, StatementOf}

-- the bytes without leading spaces
abbrev pub behind_spaces : List ℕ → List ℕ
behind_spaces [] = []
behind_spaces (b ∷ bs) = if b == 32 then behind_spaces bs else b ∷ bs

-- the line begins with a period
abbrev pub is_command : List ℕ → Bool
is_command [] = false
is_command (b ∷ bs) = b == 46

-- it begins with digits and a colon after them
abbrev pub names_unit : List ℕ → Bool
names_unit line = is_number (in_front 58 line) && nat_lt (length (in_front 58 line)) (length line)

-- what a line asks for, where `bare` is the line without leading spaces: a command; a statement of the unit that it names; and otherwise,
-- as it stands, a statement of the unit that has the turn. A number above 10 to the 18th counts as 10 to the 18th, which no unit has
abbrev pub asked_of : List ℕ → List ℕ → Asked → Type 0
asked_of line bare (Command command) = bare ≡ 46 ∷ command.now
asked_of line bare (StatementOf unit text) = (names_unit bare ≡ true) × (unit ≡ min (number (in_front 58 bare)) (10 ^ 18)) × (text.now ≡ behind_spaces (behind 58 bare))
asked_of line bare (Statement text) = (is_command bare ≡ false) × (names_unit bare ≡ false) × (text.now ≡ line)

-- WHOSE TURN IT IS

-- there is a unit with this number
abbrev pub is_unit : ℕ → ℕ → Bool
is_unit units u = nat_lt 0 u && nat_le u units

-- `.unit` is followed by the number of a unit, and by nothing else but spaces
abbrev pub gives_turn : ℕ → List ℕ → Bool
gives_turn units rest = is_number (in_front 32 rest) && (length (behind_spaces (behind 32 rest)) == 0) && is_unit units (min (number (in_front 32 rest)) (10 ^ 18))

-- that unit then has the turn; otherwise the turn stays where it was
abbrev pub turn_given : ℕ → ℕ → List ℕ → ℕ
turn_given units turn rest = if gives_turn units rest then min (number (in_front 32 rest)) (10 ^ 18) else turn

-- `.unit` or `.unit N` means a unit that exists: unit N, or the one that has the turn
abbrev pub means_unit : ℕ → ℕ → List ℕ → Bool
means_unit units turn rest = if length rest == 0 then is_unit units turn else gives_turn units rest

-- the unit that has the turn after a command: only `.unit` gives it to another
abbrev pub turn_behind : ℕ → ℕ → List ℕ → ℕ
turn_behind units turn command = if bytes_eq (in_front 32 command) (codes "unit") then turn_given units turn (behind_spaces (behind 32 command)) else turn

-- a command without leading spaces and without the carriage return that ends it
abbrev pub bare_command : List ℕ → List ℕ
bare_command command = behind_spaces (in_front 13 command)

-- the command is this name, followed by nothing but spaces
abbrev pub asks : List ℕ → List ℕ → Bool
asks name command = bytes_eq (in_front 32 command) name && (length (behind_spaces (behind 32 command)) == 0)

-- it takes the last statement back
abbrev pub asks_undo : List ℕ → Bool
asks_undo command = asks (codes "undo") command

-- the unit that has the turn after a line: a statement never changes it
abbrev pub turn_after : ℕ → ℕ → Asked → ℕ
turn_after units turn (Command command) = turn_behind units turn (bare_command command.now)
turn_after units turn (Statement text) = turn
turn_after units turn (StatementOf unit text) = turn
