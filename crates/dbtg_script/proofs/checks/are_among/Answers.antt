use Rattle.std.proofs.Common.{arith}
use Rattle.std.proofs.lemmas.Grind.{common_steps}
use Rattle.dbtg_script.proofs.checks.are_among.Goals as goal

pub returns : goal.returns
returns c = grind (arith, common_steps)

pub returns-then-not-is_among : goal.returns-then-not-is_among
returns-then-not-is_among c = grind (arith, common_steps)

pub loop-word-preserved : goal.loop-word-preserved
loop-word-preserved c = grind (arith, common_steps)
