use Rattle.std.proofs.Common.{arith}
use Rattle.std.proofs.lemmas.Grind.{common_steps}
use Rattle.dbtg_script.proofs.wanted.starts_in_words.Goals as goal

pub returns : goal.returns
returns c = grind (arith, common_steps)

pub loop-start-preserved : goal.loop-start-preserved
loop-start-preserved c = grind (arith, common_steps)
