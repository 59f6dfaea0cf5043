use Rattle.std.proofs.Common.{arith}
use Rattle.std.proofs.lemmas.Grind.{common_steps}
use Rattle.dbtg_script.proofs.print.push_each_key.Goals as goal

pub loop-key-preserved : goal.loop-key-preserved
loop-key-preserved c = grind (arith, common_steps)

pub returns : goal.returns
returns c = grind (arith, common_steps)

pub returns-in_err-push_spaced_key : goal.returns-in_err-push_spaced_key
returns-in_err-push_spaced_key c = grind (arith, common_steps)
