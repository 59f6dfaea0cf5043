use Rattle.std.proofs.Common.{arith}
use Rattle.std.proofs.lemmas.Grind.{common_steps}
use Rattle.dbtg_explain.proofs.hints.lacks_capitals.Goals as goal

pub loop-thing-preserved : goal.loop-thing-preserved
loop-thing-preserved c = grind (arith, common_steps)

pub returns : goal.returns
returns c = grind (arith, common_steps)
