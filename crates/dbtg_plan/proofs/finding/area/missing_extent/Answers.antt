use Rattle.std.proofs.Common.{arith}
use Rattle.dbtg_schema.proofs.Public.{numbers_next, numbers_end}
use Rattle.dbtg_plan.proofs.finding.area.missing_extent.Goals as goal

pub loop-t-preserved : goal.loop-t-preserved
loop-t-preserved c = grind (arith, numbers_next, numbers_end)

pub returns : goal.returns
returns c = grind (arith, numbers_next, numbers_end)

pub returns-then-is_missing : goal.returns-then-is_missing
returns-then-is_missing c = grind (arith, numbers_next, numbers_end)
