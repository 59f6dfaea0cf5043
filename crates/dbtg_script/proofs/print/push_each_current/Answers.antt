use Rattle.std.proofs.Common.{arith}
use Rattle.std.proofs.lemmas.Grind.{common_steps}
use Rattle.dbtg_script.proofs.print.push_each_current.Goals as goal

pub loop-current-preserved : goal.loop-current-preserved
loop-current-preserved c = grind (arith, common_steps)

pub returns : goal.returns
returns c = grind (arith, common_steps)

pub returns-in_err-push_current : goal.returns-in_err-push_current
returns-in_err-push_current c = grind (arith, common_steps)
