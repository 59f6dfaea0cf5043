use Rattle.std.proofs.Common.{sym}
use Rattle.dbtg_unit.specs.declared.edit.Edit.TheVariants.{Vacate}
use Rattle.dbtg_unit.specs.Hands.EditsOf.{slot_edit}
use Rattle.dbtg_unit.proofs.Hands.Holding.WhileEditing.{made_of_none}
use Rattle.dbtg_unit.proofs.erased.vacate_slot.Goals as goal

pub returns-in-None-clause-made : goal.returns-in-None-clause-made
returns-in-None-clause-made c = made_of_none (slot_edit c.args.key.now Vacate) c.args.held.now.cells (sym c.in-None.ensures.value)
