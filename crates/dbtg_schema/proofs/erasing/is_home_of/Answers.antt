use Rattle.std.proofs.Common.{arith}
use Rattle.dbtg_schema.specs.Inside.Erasing.{is_home_of}
use Rattle.dbtg_schema.proofs.Indexes.Numbers.{numbers_next, numbers_end}
use Rattle.dbtg_schema.proofs.erasing.is_home_of.Goals as goal

pub loop-s-preserved : goal.loop-s-preserved
unfolding is_home_of
loop-s-preserved c = grind (arith, numbers_next, numbers_end)

pub returns : goal.returns
unfolding is_home_of
returns c = grind (arith, numbers_next, numbers_end)
