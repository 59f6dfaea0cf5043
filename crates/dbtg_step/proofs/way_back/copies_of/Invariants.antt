use Rattle.std.proofs.Common.{◌≡◌, take}
use Rattle.dbtg_unit.specs.Hands.Prepared.{values_of}
use Rattle.dbtg_step.specs.Inside.Reversible.{values_at}
use Rattle.dbtg_step.proofs.way_back.copies_of.Given as goal

abbrev pub invariant-loop-name : goal.invariant-loop-name
invariant-loop-name l = values_of l.copies.items ≡ values_at l.held.cells (take l.name-index l.names)
