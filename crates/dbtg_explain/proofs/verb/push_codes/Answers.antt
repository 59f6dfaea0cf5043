use Rattle.std.proofs.Common.{arith}
use Rattle.std.proofs.lemmas.Grind.{common_steps}
use Rattle.dbtg_explain.proofs.verb.push_codes.Goals as goal

pub loop-status-preserved : goal.loop-status-preserved
loop-status-preserved c = grind (arith, common_steps)

pub returns : goal.returns
returns c = grind (arith, common_steps)
