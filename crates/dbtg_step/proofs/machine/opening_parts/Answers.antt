use Rattle.dbtg_step.specs.declared.parts.Parts.{Parts}
use Rattle.dbtg_step.proofs.TheCore.OpeningShown.{opens_core, opens_well}
use Rattle.dbtg_step.proofs.machine.opening_parts.Goals as goal

pub returns-clause-well : goal.returns-clause-well
returns-clause-well c =
    let parts : Parts = record { table = c.in_ok-table.table; history = c.new.result; runners = c.in_ok-runners.runners } in
    opens_well c.args.schema.now c.args.capacity parts c.args.scripts c.in_ok-table.ensures c.new.ensures.items c.in_ok-runners.ensures c.requires.sound c.requires.fit

pub returns-clause-opening : goal.returns-clause-opening
returns-clause-opening c =
    let parts : Parts = record { table = c.in_ok-table.table; history = c.new.result; runners = c.in_ok-runners.runners } in
    opens_core c.args.schema.now c.args.capacity parts c.args.scripts c.in_ok-table.ensures c.new.ensures.items c.in_ok-runners.ensures
