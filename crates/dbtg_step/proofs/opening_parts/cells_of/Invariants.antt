use Rattle.std.proofs.Common.{◌≡◌, take}
use Rattle.dbtg_step.specs.Core.Openings.{homes_shown}
use Rattle.dbtg_step.specs.Inside.Openings.{homes_opened}
use Rattle.dbtg_step.proofs.opening_parts.cells_of.Given as goal

abbrev pub invariant-loop-name : goal.invariant-loop-name
invariant-loop-name l = homes_shown l.cells.items ≡ homes_opened l.capacity (take l.name-index l.names)
