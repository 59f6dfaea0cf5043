use Rattle.std.proofs.Common.{arith}
use Rattle.std.proofs.lemmas.Grind.{common_steps}
use Rattle.dbtg_script.proofs.statement.statement_of.Goals as goal

pub returns-in-Close : goal.returns-in-Close
returns-in-Close c = grind (arith, common_steps)

pub returns-in-Delete : goal.returns-in-Delete
returns-in-Delete c = grind (arith, common_steps)

pub returns-in-Find : goal.returns-in-Find
returns-in-Find c = grind (arith, common_steps)

pub returns-in-Free : goal.returns-in-Free
returns-in-Free c = grind (arith, common_steps)

pub returns-in-Get : goal.returns-in-Get
returns-in-Get c = grind (arith, common_steps)

pub returns-in-Insert : goal.returns-in-Insert
returns-in-Insert c = grind (arith, common_steps)

pub returns-in-Modify : goal.returns-in-Modify
returns-in-Modify c = grind (arith, common_steps)

pub returns-in-Open : goal.returns-in-Open
returns-in-Open c = grind (arith, common_steps)

pub returns-in-Remove : goal.returns-in-Remove
returns-in-Remove c = grind (arith, common_steps)

pub returns-in-Store : goal.returns-in-Store
returns-in-Store c = grind (arith, common_steps)

pub returns-in_default : goal.returns-in_default
returns-in_default c = grind (arith, common_steps)
