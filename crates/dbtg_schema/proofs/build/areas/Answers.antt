use Rattle.std.proofs.Common.{arith}
use Rattle.std.proofs.lemmas.Grind.{common_steps}
use Rattle.dbtg_schema.proofs.build.areas.Goals as goal

pub loop-i-preserved : goal.loop-i-preserved
loop-i-preserved c = grind (arith, common_steps)

pub returns : goal.returns
returns c = grind (arith, common_steps)

pub returns-in_err-name : goal.returns-in_err-name
returns-in_err-name c = grind (arith, common_steps)

pub returns-in_err-push : goal.returns-in_err-push
returns-in_err-push c = grind (arith, common_steps)
