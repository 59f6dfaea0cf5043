use Rattle.std.proofs.Common.{arith}
use Rattle.std.proofs.lemmas.Grind.{common_steps}
use Rattle.dbtg_page.proofs.page.push_types.Goals as goal

pub loop-rtype-preserved : goal.loop-rtype-preserved
loop-rtype-preserved c = grind (arith, common_steps)
