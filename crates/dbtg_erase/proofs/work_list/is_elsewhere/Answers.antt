use Rattle.std.proofs.Common.{arith}
use Rattle.dbtg_schema.proofs.Public.{numbers_next, numbers_end}
use Rattle.dbtg_erase.proofs.work_list.is_elsewhere.Goals as goal

pub loop-s-preserved : goal.loop-s-preserved
loop-s-preserved c = grind (arith, numbers_next, numbers_end)

pub returns : goal.returns
returns c = grind (arith, numbers_next, numbers_end)

pub returns-then-is_other : goal.returns-then-is_other
returns-then-is_other c = grind (arith, numbers_next, numbers_end)
