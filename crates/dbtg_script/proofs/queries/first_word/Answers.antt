use Rattle.std.proofs.Common.{arith}
use Rattle.std.proofs.lemmas.Grind.{common_steps}
use Rattle.dbtg_script.proofs.queries.first_word.Goals as goal

pub returns : goal.returns
returns c = grind (arith, common_steps)

pub loop-word-preserved : goal.loop-word-preserved
loop-word-preserved c = grind (arith, common_steps)

pub returns-then-has_role : goal.returns-then-has_role
returns-then-has_role c = grind (arith, common_steps)
