-- What a unit in mid-statement took last, of the areas and of the cells that it holds.
use Rattle.std.specs.Prelude.{ℕ, Option, option_map, slice_get}
use Rattle.dbtg_schema.specs.Lists.{Lists}
use Rattle.dbtg_step.specs.declared.watching.Newest.{Newest}
use Rattle.dbtg_step.specs.Machine.SequentialDatabase.{unit_at}
use Rattle.dbtg_step.specs.Machine.Machine.{UnitState, held_areas, held_cells}
use Rattle.dbtg_step.specs.Machine.Network.{network}
use Rattle.dbtg_step.specs.Core.Parts.{CoreState}

-- the machine has areas and cells with the newest first
abbrev pub newest_of : {schema : Lists} {capacity : ℕ} → UnitState (network schema capacity) → Newest
newest_of {schema} {capacity} state = record {
  area = slice_get (held_areas (network schema capacity) state.progress) 0;
  cell = option_map (λ h. h.name) (slice_get (held_cells (network schema capacity) state.progress) 0);
}

-- the same of unit u, if there is one
abbrev pub newest_at : CoreState → ℕ → Option Newest
newest_at c u = option_map newest_of (unit_at c.state.units u)
