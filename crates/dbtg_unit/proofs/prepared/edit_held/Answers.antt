use Rattle.std.proofs.Common.{sym}
use Rattle.dbtg_unit.proofs.Hands.Holding.WhileEditing.{made_of_none}
use Rattle.dbtg_unit.proofs.prepared.edit_held.Goals as goal

pub returns-in-None-clause-made : goal.returns-in-None-clause-made
returns-in-None-clause-made c = made_of_none c.args.edit c.args.held.now.cells (sym c.in-None.ensures.value)
