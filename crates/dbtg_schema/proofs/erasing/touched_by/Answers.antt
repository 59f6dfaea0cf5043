use Rattle.std.proofs.Common.{arith}
use Rattle.std.proofs.lemmas.Grind.{common_steps}
use Rattle.dbtg_schema.proofs.erasing.touched_by.Goals as goal

pub loop-a-preserved : goal.loop-a-preserved
loop-a-preserved c = grind (arith, common_steps)

pub returns : goal.returns
returns c = grind (arith, common_steps)
