use Rattle.std.proofs.Common.{drop}
use Rattle.dbtg_unit.specs.declared.edit.Edit.TheVariants.{Vacate}
use Rattle.dbtg_unit.specs.Hands.EditsOf.{slot_edit}
use Rattle.dbtg_unit.proofs.Hands.Holding.WhileEditing.{MadeSoFar}
use Rattle.dbtg_unit.proofs.erased.vacate_each_slot.Given as goal

abbrev pub invariant-loop-key : goal.invariant-loop-key
invariant-loop-key l = MadeSoFar (λ d. slot_edit d Vacate) l.gone (drop l.key-index l.gone) l.initial.held l.held
