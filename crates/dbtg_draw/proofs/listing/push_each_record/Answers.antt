use Rattle.std.proofs.Common.{arith}
use Rattle.std.proofs.lemmas.Grind.{common_steps}
use Rattle.dbtg_draw.proofs.listing.push_each_record.Goals as goal

pub loop-record-preserved : goal.loop-record-preserved
loop-record-preserved c = grind (arith, common_steps)

pub returns : goal.returns
returns c = grind (arith, common_steps)
