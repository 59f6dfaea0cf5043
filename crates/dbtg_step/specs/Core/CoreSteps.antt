-- The results of a step and a quit of the core.
use Rattle.std.specs.Prelude.{ℕ, ◌≡◌}
use Rattle.dbtg_unit.specs.declared.moves.Move.{Move}
use Rattle.dbtg_unit.specs.declared.moves.Stepped.{Stepped}
use Rattle.dbtg_unit.specs.declared.moves.Stepped.TheVariants.{Moved, Blocked, Idle, NoMemory}
use Rattle.dbtg_step.specs.Machine.Machine.{State}
use Rattle.dbtg_step.specs.Machine.Network.{network}
use Rattle.dbtg_step.specs.Machine.Step.{IsBlocked, IsIdle, MovedTo, Transition, quit, result_of, state_after, step, transition}
use Rattle.dbtg_step.specs.Machine.NeverStuck.{IsNotStuck}
use Rattle.dbtg_step.specs.Core.Events.{WantsMemory}
use Rattle.dbtg_step.specs.Core.Parts.{CoreState, with_state}

-- the machine's step of unit u
abbrev pub step_of : (c : CoreState) → ℕ → Transition (network c.schema c.capacity)
step_of c u = step (network c.schema c.capacity) c.opening c.state u

-- the machine's quit of unit u
abbrev pub quit_of : (c : CoreState) → ℕ → Transition (network c.schema c.capacity)
quit_of c u = quit (network c.schema c.capacity) c.state u

-- Moved exactly if the machine moves, to its next state; Blocked and Idle exactly if it is; memory is refused only in place
-- of an event before a ticket that is not a turn back. Without Moved nothing changes
abbrev pub IsStep : CoreState → ℕ → Stepped → CoreState → Type 0
IsStep old u Moved new = (t : State (network old.schema old.capacity)) × (step_of old u ≡ MovedTo t) × (new ≡ with_state old t)
IsStep old u Blocked new = (step_of old u ≡ IsBlocked) × (new ≡ old)
IsStep old u Idle new = (step_of old u ≡ IsIdle) × (new ≡ old)
IsStep old u NoMemory new = WantsMemory old.opening old.state u × (new ≡ old)

-- Moved exactly if the machine's quit is an event, otherwise Idle
abbrev pub IsQuitStep : CoreState → ℕ → Stepped → CoreState → Type 0
IsQuitStep old u Moved new = (t : State (network old.schema old.capacity)) × (quit_of old u ≡ MovedTo t) × (new ≡ with_state old t)
IsQuitStep old u Blocked new = ⊥
IsQuitStep old u Idle new = (quit_of old u ≡ IsIdle) × (new ≡ old)
IsQuitStep old u NoMemory new = ⊥

-- if a unit is in mid-statement, some unit's next step is an event
abbrev pub IsNeverStuck : CoreState → Type 0
IsNeverStuck c = IsNotStuck (network c.schema c.capacity) c.opening c.state

-- the machine's transition of a move
abbrev pub transition_of : (c : CoreState) → Move → Transition (network c.schema c.capacity)
transition_of c m = transition (network c.schema c.capacity) c.opening c.state m

-- the result of a move, and the machine after it
abbrev pub result_of_move : CoreState → Move → Stepped
result_of_move c m = result_of (network c.schema c.capacity) (transition_of c m)

-- the core after a move
abbrev pub after_move : CoreState → Move → CoreState
after_move c m = with_state c (state_after (network c.schema c.capacity) c.state (transition_of c m))
