use Rattle.std.proofs.Common.{arith}
use Rattle.std.proofs.lemmas.Grind.{common_steps}
use Rattle.dbtg_erase.proofs.EditLists.{edits_append}
use Rattle.dbtg_erase.proofs.edits.lose_all.Goals as goal

pub loop-key-preserved : goal.loop-key-preserved
loop-key-preserved c = grind (arith, common_steps, edits_append)

pub returns : goal.returns
returns c = grind (arith, common_steps, edits_append)
