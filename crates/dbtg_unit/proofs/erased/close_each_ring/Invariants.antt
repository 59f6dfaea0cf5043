use Rattle.std.proofs.Common.{drop}
use Rattle.dbtg_unit.specs.Hands.EditsOf.{close_ring}
use Rattle.dbtg_unit.proofs.Hands.Holding.WhileEditing.{MadeSoFar}
use Rattle.dbtg_unit.proofs.erased.close_each_ring.Given as goal

abbrev pub invariant-loop-name : goal.invariant-loop-name
invariant-loop-name l = MadeSoFar close_ring l.rings (drop l.name-index l.rings) l.initial.held l.held
