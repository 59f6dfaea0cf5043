use Rattle.std.proofs.Common.{arith}
use Rattle.std.proofs.lemmas.Grind.{common_steps}
use Rattle.dbtg_program.proofs.judging.is_among.Goals as goal

pub loop-counter-preserved : goal.loop-counter-preserved
loop-counter-preserved c = grind (arith, common_steps)

pub returns : goal.returns
returns c = grind (arith, common_steps)
