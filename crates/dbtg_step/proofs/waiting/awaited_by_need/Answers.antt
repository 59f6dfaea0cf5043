use Rattle.std.proofs.Common.{◌-◌, arith}
use Rattle.dbtg_cells.proofs.Public.{there_is}
use Rattle.dbtg_step.proofs.TheCore.WaitingShown.{ready_goes_on, stale_goes_on}
use Rattle.dbtg_step.proofs.waiting.awaited_by_need.Goals as goal

pub awaits_cell-requires-clause-needs : goal.awaits_cell-requires-clause-needs
awaits_cell-requires-clause-needs c = rw c.in-Take.is at c.requires.needs

pub returns-in-Area : goal.returns-in-Area
returns-in-Area c = c.awaits_area.ensures c.args.schema.now c.args.capacity c.requires.well (rw c.in-Area.is at c.requires.needs)

pub returns-in-Stale : goal.returns-in-Stale
returns-in-Stale c =
    let it = there_is c.args.parts.now.runners.items (c.args.unit - 1) (omega (arith, c.requires.within, c.requires.numbered)) in
    stale_goes_on c.args.schema.now c.args.capacity c.args.unit c.args.parts.now c.requires.well it.0 c.requires.numbered it.1 c.args.progress (c.requires.stands it.0 it.1) (rw c.in-Stale.is at c.requires.needs)

pub returns-in-Ready : goal.returns-in-Ready
returns-in-Ready c =
    let it = there_is c.args.parts.now.runners.items (c.args.unit - 1) (omega (arith, c.requires.within, c.requires.numbered)) in
    ready_goes_on c.args.schema.now c.args.capacity c.args.unit c.args.parts.now c.requires.well it.0 c.requires.numbered it.1 c.args.progress (c.requires.stands it.0 it.1) (rw c.in-Ready.is at c.requires.needs)
