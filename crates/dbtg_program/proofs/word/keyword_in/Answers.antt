use Rattle.std.proofs.Common.{arith}
use Rattle.std.proofs.lemmas.Grind.{common_steps}
use Rattle.dbtg_program.proofs.word.keyword_in.Goals as goal

pub loop-keyword-preserved : goal.loop-keyword-preserved
loop-keyword-preserved c = grind (arith, common_steps)

pub returns : goal.returns
returns c = grind (arith, common_steps)
