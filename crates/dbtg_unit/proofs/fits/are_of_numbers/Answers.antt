use Rattle.std.proofs.Common.{arith}
use Rattle.std.proofs.lemmas.Grind.{common_steps}
use Rattle.dbtg_unit.proofs.Lists.SideBySide.{drop_some, drop_none}
use Rattle.dbtg_unit.proofs.fits.are_of_numbers.Goals as goal

pub loop-i-preserved : goal.loop-i-preserved
loop-i-preserved c = grind (arith, common_steps, drop_some, drop_none)

pub returns : goal.returns
returns c = grind (arith, common_steps, drop_some, drop_none)

pub returns-in-None : goal.returns-in-None
returns-in-None c = grind (arith, common_steps, drop_some, drop_none)

pub returns-then-not-value_fits : goal.returns-then-not-value_fits
returns-then-not-value_fits c = grind (arith, common_steps, drop_some, drop_none)
