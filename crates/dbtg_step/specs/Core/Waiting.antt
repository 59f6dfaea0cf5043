-- What a unit waits for when its step is blocked, and which other units have it.
-- c is a core, u the number of a unit, w how far it is with its statement, a what it waits for.
use Rattle.std.specs.Prelude.{ℕ, ◌≢◌, ◌+◌, ◌==◌, ◌&&◌, Bool, not, List, [], ◌∷◌, Option, Some, None, if◌then◌else◌, option_map}
use Rattle.std.specs.List.{list_any}
use Rattle.dbtg_cells.specs.declared.key.Owner.{Owner}
use Rattle.dbtg_cells.specs.declared.name.CellName.{CellName}
use Rattle.dbtg_cells.specs.Names.{name_eq}
use Rattle.dbtg_unit.specs.declared.statement.Statement.{Statement}
use Rattle.dbtg_step.specs.declared.waiting.Awaited.{Awaited}
use Rattle.dbtg_step.specs.declared.waiting.Awaited.TheVariants.{Area, Cell}
use Rattle.dbtg_step.specs.declared.waiting.Blocking.{Blocking}
use Rattle.dbtg_step.specs.Machine.SequentialDatabase.{NextNeed, NeedsArea, NeedsCell, StaleGuesses, NeedsNothing, unit_at}
use Rattle.dbtg_step.specs.Machine.Machine.{StatementProgress, UnitState, held_cells}
use Rattle.dbtg_step.specs.Machine.Network.{network}
use Rattle.dbtg_step.specs.Machine.Step.{IsBlocked, IsIdle, MovedTo, Transition, conflicts, next_need}
use Rattle.dbtg_step.specs.Core.CoreSteps.{step_of}
use Rattle.dbtg_step.specs.Core.Parts.{CoreState}

-- the area or the cell of a need
abbrev pub awaited_of : Bool → NextNeed CellName (List (Option Owner)) → Option Awaited
awaited_of exclusive (NeedsArea a) = Some (Area a exclusive)
awaited_of exclusive (NeedsCell x) = Some (Cell x)
awaited_of exclusive (StaleGuesses g) = None
awaited_of exclusive NeedsNothing = None

-- what the statement of a unit in mid-statement needs next
abbrev pub taken_next : (c : CoreState) → UnitState (network c.schema c.capacity) → Option (StatementProgress (network c.schema c.capacity)) → List Statement → Option Awaited
taken_next c state (Some w) (x ∷ xs) = awaited_of w.exclusive (next_need (network c.schema c.capacity) c.opening c.state state w x)
taken_next c state _ _ = None

-- the same for a unit that may not be there
abbrev pub taken_next_by : (c : CoreState) → Option (UnitState (network c.schema c.capacity)) → Option Awaited
taken_next_by c None = None
taken_next_by c (Some state) = taken_next c state state.progress state.remaining

-- it is waited for exactly if the step is blocked
abbrev pub where_blocked : (c : CoreState) → Transition (network c.schema c.capacity) → Option Awaited → Option Awaited
where_blocked c IsBlocked next = next
where_blocked c (MovedTo s) next = None
where_blocked c IsIdle next = None

-- what unit u waits for
abbrev pub awaited : CoreState → ℕ → Option Awaited
awaited c u = where_blocked c (step_of c u) (taken_next_by c (unit_at c.state.units u))

-- a unit has it: an area in a conflicting way, or a cell
abbrev pub has_in_hand : (c : CoreState) → Awaited → UnitState (network c.schema c.capacity) → Bool
has_in_hand c (Area a exclusive) state = conflicts (network c.schema c.capacity) exclusive a state
has_in_hand c (Cell x) state = list_any (λ h. name_eq x h.name) (held_cells (network c.schema c.capacity) state.progress)

-- the numbers of the units other than u that have it, if the first of these units has the number n
abbrev pub holders_from : (c : CoreState) → ℕ → Awaited → ℕ → List (UnitState (network c.schema c.capacity)) → List ℕ
holders_from c u a n [] = []
holders_from c u a n (s ∷ ss) = if not (n == u) && has_in_hand c a s then n ∷ holders_from c u a (n + 1) ss else holders_from c u a (n + 1) ss

-- what unit u waits for, and who has it
abbrev pub blocking_of : CoreState → ℕ → Option Blocking
blocking_of c u = option_map (λ a. record { awaited = a; holders = holders_from c u a 1 c.state.units }) (awaited c u)

-- if nothing is reported its step is not blocked; otherwise another unit has what it waits for
abbrev pub TellsOfBlocked : CoreState → ℕ → Option Blocking → Type 0
TellsOfBlocked c u None = step_of c u ≢ IsBlocked
TellsOfBlocked c u (Some b) = b.holders ≢ []
