use Rattle.std.proofs.Common.{arith}
use Rattle.std.proofs.lemmas.Grind.{common_steps}
use Rattle.dbtg_erase.proofs.edits.rings_of_all.Goals as goal

pub loop-key-preserved : goal.loop-key-preserved
loop-key-preserved c = grind (arith, common_steps)

pub returns : goal.returns
returns c = grind (arith, common_steps)

pub returns-in_err-push_each_ring : goal.returns-in_err-push_each_ring
returns-in_err-push_each_ring c = grind (arith, common_steps)
