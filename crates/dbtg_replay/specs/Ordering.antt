-- The order in which units make their statements: turns, and the moves that they stand for. One script may be made first: it is the last
-- of the scripts, and its unit makes it whole before all others.
-- lists is the schema that a text says.
use Rattle.std.specs.Prelude.{ℕ, ◌≡◌, ◌+◌, ◌-◌, ◌++◌, Bool, true, false, List, [], ◌∷◌, length, replicate, slice_get, unwrap_or}
use Rattle.dbtg_schema.specs.Lists.{Lists}
use Rattle.dbtg_unit.specs.declared.moves.Move.{Move}
use Rattle.dbtg_unit.specs.declared.statement.Statement.{Statement}
use Rattle.dbtg_step.specs.declared.results.Run.{Run}
use Rattle.dbtg_step.specs.Core.Turns.{IsRunByTurns}

-- these turns stand for these moves: there is a run of both
abbrev pub StandFor : Lists → ℕ → List (List Statement) → List ℕ → List Move → Type 0
StandFor lists capacity scripts turns moves = (given : Run) × IsRunByTurns lists capacity scripts turns moves given

-- unit u takes a turn for each statement of its script, then the next unit
abbrev pub serial_turns : ℕ → List (List Statement) → List ℕ
serial_turns u [] = []
serial_turns u (script ∷ scripts) = replicate (length script) u ++ serial_turns (u + 1) scripts

-- THE SCRIPT THAT IS MADE FIRST

-- the last of the scripts
abbrev pub last_of : List (List Statement) → List Statement
last_of scripts = unwrap_or (slice_get scripts (length scripts - 1)) []

-- its unit, the last one, takes a turn for each of its statements; none if no script is made first
abbrev pub first_turns : Bool → List (List Statement) → List ℕ
first_turns false scripts = []
first_turns true scripts = replicate (length (last_of scripts)) (length scripts)

-- the moves for which these turns stand; none if no script is made first
abbrev pub AreFirstMoves : Bool → Lists → ℕ → List (List Statement) → List Move → Type 0
AreFirstMoves false lists capacity scripts moves = moves ≡ []
AreFirstMoves true lists capacity scripts moves = StandFor lists capacity scripts (first_turns true scripts) moves
