use Rattle.std.proofs.Common.{arith}
use Rattle.std.proofs.lemmas.Grind.{common_steps}
use Rattle.dbtg_timeline.proofs.text.push_each_lane.Goals as goal

pub loop-midway-preserved : goal.loop-midway-preserved
loop-midway-preserved c = grind (arith, common_steps)

pub returns : goal.returns
returns c = grind (arith, common_steps)
