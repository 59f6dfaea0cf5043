use Rattle.std.proofs.Common.{arith}
use Rattle.std.proofs.lemmas.Grind.{common_steps}
use Rattle.dbtg_refusal.proofs.areas.user_against.Goals as goal

pub loop-user-preserved : goal.loop-user-preserved
loop-user-preserved c = grind (arith, common_steps)

pub returns : goal.returns
returns c = grind (arith, common_steps)
