use Rattle.std.proofs.Common.{arith}
use Rattle.std.proofs.lemmas.Grind.{common_steps}
use Rattle.dbtg_script.proofs.line.is_allowed_and_closed.Goals as goal

pub loop-b-preserved : goal.loop-b-preserved
loop-b-preserved c = grind (arith, common_steps)

pub returns-then-line-le1000 : goal.returns-then-line-le1000
returns-then-line-le1000 c = grind (arith, common_steps)
