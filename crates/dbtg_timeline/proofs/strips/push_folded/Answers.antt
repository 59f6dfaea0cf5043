use Rattle.std.proofs.Common.{arith}
use Rattle.std.proofs.lemmas.Grind.{common_steps}
use Rattle.dbtg_timeline.proofs.strips.push_folded.Goals as goal

pub loop-i-preserved : goal.loop-i-preserved
loop-i-preserved c = grind (arith, common_steps)

pub returns-in_ok-push-3 : goal.returns-in_ok-push-3
returns-in_ok-push-3 c = grind (arith, common_steps)

pub returns-else-not-is_empty : goal.returns-else-not-is_empty
returns-else-not-is_empty c = grind (arith, common_steps)
