-- The machine before the first move of a run.
use Rattle.std.specs.Prelude.{ℕ, List, length}
use Rattle.dbtg_schema.specs.Lists.{Lists}
use Rattle.dbtg_unit.specs.declared.moves.Move.{Move}
use Rattle.dbtg_unit.specs.declared.statement.Statement.{Statement}
use Rattle.dbtg_step.specs.Machine.Headline.{machine_of, opening_of}
use Rattle.dbtg_step.specs.Core.Parts.{CoreState}
use Rattle.dbtg_timeline.specs.declared.event.Event.{Event}
use Rattle.dbtg_timeline.specs.Events.{events_of}

-- the core of these scripts before the first move
abbrev pub opening_core : Lists → ℕ → List (List Statement) → CoreState
opening_core schema capacity scripts = record { schema = schema; capacity = capacity; opening = opening_of schema capacity (length scripts); state = machine_of schema capacity scripts }

-- the events of these moves, from the opening database on
abbrev pub events_of_run : Lists → ℕ → List (List Statement) → List Move → List Event
events_of_run schema capacity scripts moves = events_of (opening_core schema capacity scripts) moves
