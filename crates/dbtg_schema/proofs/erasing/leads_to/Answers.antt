use Rattle.std.proofs.Common.{arith}
use Rattle.dbtg_schema.specs.Inside.Erasing.{leads_to}
use Rattle.dbtg_schema.proofs.Indexes.Numbers.{numbers_next, numbers_end}
use Rattle.dbtg_schema.proofs.erasing.leads_to.Goals as goal

pub loop-s-preserved : goal.loop-s-preserved
unfolding leads_to
loop-s-preserved c = grind (arith, numbers_next, numbers_end)

pub returns : goal.returns
unfolding leads_to
returns c = grind (arith, numbers_next, numbers_end)
