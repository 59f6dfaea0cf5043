-- Where a unit is, as seen from outside.
use Rattle.std.specs.Prelude.{ℕ, ◌-◌, Option, is_some, length, option_map}
use Rattle.dbtg_step.specs.declared.watching.Position.{Position}
use Rattle.dbtg_step.specs.declared.watching.Progress.{Progress as Shown}
use Rattle.dbtg_step.specs.Machine.SequentialDatabase.{SequentialDatabase, unit_at}
use Rattle.dbtg_step.specs.Machine.Machine.{StatementProgress, State, UnitState}

module _ (D : SequentialDatabase) where
  -- how far a unit is with its statement, in numbers
  abbrev pub shown_progress : StatementProgress D → Shown
  shown_progress w = record { areas = length w.areas; cells = length w.cells; turning_back = w.turning_back; has_ticket = is_some w.ticket; linked = w.linked }

  -- how many statements of its script have their ticket, and its progress
  abbrev pub position_of : UnitState D → Position
  position_of state = record { made = length state.script - length state.remaining; progress = option_map shown_progress state.progress }

  -- the position of unit u, if there is one
  abbrev pub position_at : State D → ℕ → Option Position
  position_at s u = option_map position_of (unit_at s.units u)
