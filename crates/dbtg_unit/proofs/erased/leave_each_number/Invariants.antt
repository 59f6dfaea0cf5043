use Rattle.std.proofs.Common.{drop}
use Rattle.dbtg_unit.specs.Hands.EditsOf.{leave_number}
use Rattle.dbtg_unit.proofs.Hands.Holding.WhileEditing.{MadeSoFar}
use Rattle.dbtg_unit.proofs.erased.leave_each_number.Given as goal

abbrev pub invariant-loop-key : goal.invariant-loop-key
invariant-loop-key l = MadeSoFar leave_number l.gone (drop l.key-index l.gone) l.initial.held l.held
