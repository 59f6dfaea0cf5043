use Rattle.std.proofs.Common.{arith}
use Rattle.std.proofs.lemmas.Grind.{common_steps}
use Rattle.dbtg_erase.proofs.EditLists.{names_append}
use Rattle.dbtg_erase.proofs.edits.push_each_ring.Goals as goal

pub loop-set-preserved : goal.loop-set-preserved
loop-set-preserved c = grind (arith, common_steps, names_append)

pub returns : goal.returns
returns c = grind (arith, common_steps, names_append)
