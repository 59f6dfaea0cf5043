use Rattle.std.proofs.Common.{arith}
use Rattle.std.proofs.lemmas.Grind.{common_steps}
use Rattle.dbtg_cells.proofs.record_owners.row_of_alone.Goals as goal

pub loop-set-init : goal.loop-set-init
loop-set-init c = grind (arith, common_steps)

pub loop-set-preserved : goal.loop-set-preserved
loop-set-preserved c = grind (arith, common_steps)

pub returns : goal.returns
returns c = grind (arith, common_steps)
