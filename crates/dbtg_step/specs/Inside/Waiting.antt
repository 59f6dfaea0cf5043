-- Who has what a unit waits for, as it lies in memory.
-- c is a core, u the number of a unit, r a runner, a what is waited for, x the name of a cell.
use Rattle.std.specs.Prelude.{ℕ, ◌≡◌, ◌≢◌, ◌+◌, ◌==◌, ◌&&◌, Bool, true, false, not, List, [], ◌∷◌, Option, Some, None, if◌then◌else◌, is_some}
use Rattle.std.specs.List.{list_any}
use Rattle.dbtg_cells.specs.declared.cell.Cell.{Cell as CellHeld}
use Rattle.dbtg_cells.specs.declared.name.CellName.{CellName}
use Rattle.dbtg_cells.specs.Names.{name_eq}
use Rattle.dbtg_cells.specs.Shown.{CellValue}
use Rattle.dbtg_step.specs.declared.parts.UnitState.{UnitState}
use Rattle.dbtg_step.specs.declared.waiting.Awaited.{Awaited}
use Rattle.dbtg_step.specs.declared.waiting.Awaited.TheVariants.{Area, Cell}
use Rattle.dbtg_step.specs.Machine.Machine.{CellLocation, Home, HeldBy}
use Rattle.dbtg_step.specs.Machine.Step.{IsBlocked}
use Rattle.dbtg_step.specs.Core.CoreSteps.{step_of}
use Rattle.dbtg_step.specs.Core.Parts.{CoreState}
use Rattle.dbtg_step.specs.Core.Waiting.{awaited, holders_from}
use Rattle.dbtg_step.specs.Inside.Stands.{holds_against}

-- what unit u waits for, which another unit has; nothing only if its step is not blocked
abbrev pub IsAwaited : CoreState → ℕ → Option Awaited → Type 0
IsAwaited c u None = (None ≡ awaited c u) × (step_of c u ≢ IsBlocked)
IsAwaited c u (Some a) = (Some a ≡ awaited c u) × (holders_from c u a 1 c.state.units ≢ [])

-- a unit has the cell
abbrev pub is_with_unit : CellLocation CellValue → Bool
is_with_unit (Home v) = false
is_with_unit (HeldBy u) = true

-- the unit has it, in a conflicting way
abbrev pub has_awaited : Awaited → UnitState → Bool
has_awaited (Area a exclusive) r = holds_against exclusive a r
has_awaited (Cell x) r = is_some r.progress && list_any (λ (e : CellName × CellHeld). name_eq x e.0) r.held.cells

-- the numbers of the units other than u that have it, if the first of these has the number n
abbrev pub numbers_from : ℕ → Awaited → ℕ → List UnitState → List ℕ
numbers_from u a n [] = []
numbers_from u a n (r ∷ rs) = if not (n == u) && has_awaited a r then n ∷ numbers_from u a (n + 1) rs else numbers_from u a (n + 1) rs
