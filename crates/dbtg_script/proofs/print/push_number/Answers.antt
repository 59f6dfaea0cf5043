use Rattle.std.proofs.Common.{arith}
use Rattle.std.proofs.lemmas.Grind.{common_steps}
use Rattle.dbtg_script.proofs.Printing.DecimalSteps.{last_four}
use Rattle.dbtg_script.proofs.print.push_number.Goals as goal

pub returns-then-n-lt100000000 : goal.returns-then-n-lt100000000
returns-then-n-lt100000000 c = grind (arith, common_steps, last_four)

pub returns-in_err-push_four : goal.returns-in_err-push_four
returns-in_err-push_four c = grind (arith, common_steps, last_four)
