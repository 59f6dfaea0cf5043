use Rattle.std.proofs.Common.{◌≡◌, sym, subst, ◌-◌, arith}
use Rattle.dbtg_cells.proofs.Public.{there_is}
use Rattle.dbtg_step.specs.Core.Parts.{location_at}
use Rattle.dbtg_step.specs.Inside.Parts.{core_of}
use Rattle.dbtg_step.specs.Inside.Waiting.{IsAwaited, is_with_unit}
use Rattle.dbtg_step.proofs.TheCore.WaitingShown.{cell_awaited}
use Rattle.dbtg_step.proofs.waiting.awaits_cell.Goals as goal

pub returns : goal.returns
returns c =
    let it = there_is c.args.parts.now.runners.items (c.args.unit - 1) (omega (arith, c.requires.within, c.requires.numbered)) in
    let there : is_with_unit (location_at c.args.schema.now c.args.capacity c.args.parts.now.table.items c.args.name) ≡ c.is_with_unit-is_held.result = rw (c.as_slice.ensures.value) at (sym c.is_with_unit-is_held.ensures) in
    subst (IsAwaited (core_of c.args.schema.now c.args.capacity c.args.parts.now) c.args.unit) (sym c.where_held.ensures)
    (cell_awaited c.args.schema.now c.args.capacity c.args.unit c.args.parts.now c.requires.well it.0 c.requires.numbered it.1 c.args.progress (c.requires.stands it.0 it.1) c.args.name c.requires.needs c.is_with_unit-is_held.result there)
