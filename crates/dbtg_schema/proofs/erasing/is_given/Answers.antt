use Rattle.std.proofs.Common.{arith}
use Rattle.dbtg_schema.specs.Inside.Erasing.{is_given}
use Rattle.dbtg_schema.proofs.Indexes.Numbers.{numbers_next, numbers_end}
use Rattle.dbtg_schema.proofs.erasing.is_given.Goals as goal

pub loop-row-preserved : goal.loop-row-preserved
unfolding is_given
loop-row-preserved c = grind (arith, numbers_next, numbers_end)

pub returns : goal.returns
unfolding is_given
returns c = grind (arith, numbers_next, numbers_end)
