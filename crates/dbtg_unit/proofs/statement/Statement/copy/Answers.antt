use Rattle.std.proofs.Common.{arith}
use Rattle.std.proofs.lemmas.Grind.{common_steps}
use Rattle.dbtg_unit.proofs.statement.Statement.copy.Goals as goal

pub returns-in-CloseArea : goal.returns-in-CloseArea
returns-in-CloseArea c = grind (arith, common_steps)

pub returns-in-Delete : goal.returns-in-Delete
returns-in-Delete c = grind (arith, common_steps)

pub returns-in-Free : goal.returns-in-Free
returns-in-Free c = grind (arith, common_steps)

pub returns-in-Get : goal.returns-in-Get
returns-in-Get c = grind (arith, common_steps)

pub returns-in-Insert : goal.returns-in-Insert
returns-in-Insert c = grind (arith, common_steps)

pub returns-in-Keep : goal.returns-in-Keep
returns-in-Keep c = grind (arith, common_steps)

pub returns-in-OpenArea : goal.returns-in-OpenArea
returns-in-OpenArea c = grind (arith, common_steps)

pub returns-in-Remove : goal.returns-in-Remove
returns-in-Remove c = grind (arith, common_steps)

pub returns-in_err-changes-in-Modify : goal.returns-in_err-changes-in-Modify
returns-in_err-changes-in-Modify c = grind (arith, common_steps)

pub returns-in_err-copy-in-Find : goal.returns-in_err-copy-in-Find
returns-in_err-copy-in-Find c = grind (arith, common_steps)

pub returns-in_err-items-in-Store : goal.returns-in_err-items-in-Store
returns-in_err-items-in-Store c = grind (arith, common_steps)

pub returns-in_ok-changes-in-Modify : goal.returns-in_ok-changes-in-Modify
returns-in_ok-changes-in-Modify c = grind (arith, common_steps)

pub returns-in_ok-copy-in-Find : goal.returns-in_ok-copy-in-Find
returns-in_ok-copy-in-Find c = grind (arith, common_steps)

pub returns-in_ok-items-in-Store : goal.returns-in_ok-items-in-Store
returns-in_ok-items-in-Store c = grind (arith, common_steps)
