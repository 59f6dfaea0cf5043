use Rattle.std.proofs.Common.{sym}
use Rattle.dbtg_unit.specs.Hands.EditsOf.{leave_number}
use Rattle.dbtg_unit.proofs.Hands.Holding.WhileEditing.{made_of_none}
use Rattle.dbtg_unit.proofs.erased.leave_number.Goals as goal

pub returns-in-None-clause-made : goal.returns-in-None-clause-made
returns-in-None-clause-made c = made_of_none (leave_number c.args.key.now) c.args.held.now.cells (sym c.in-None.ensures.value)
