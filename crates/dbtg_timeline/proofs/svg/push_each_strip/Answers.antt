use Rattle.std.proofs.Common.{arith}
use Rattle.std.proofs.lemmas.Grind.{common_steps}
use Rattle.dbtg_timeline.proofs.svg.push_each_strip.Goals as goal

pub loop-strip-preserved : goal.loop-strip-preserved
loop-strip-preserved c = grind (arith, common_steps)

pub returns : goal.returns
returns c = grind (arith, common_steps)
