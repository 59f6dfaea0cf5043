use Rattle.std.proofs.Common.{arith}
use Rattle.std.proofs.lemmas.Grind.{common_steps}
use Rattle.dbtg_script.proofs.statement.+set_bits.Goals as goal

pub returns-then-is_suppressed-clause-bits : goal.returns-then-is_suppressed-clause-bits
returns-then-is_suppressed-clause-bits c = grind (arith, common_steps)

pub returns-else-is_suppressed-clause-bits : goal.returns-else-is_suppressed-clause-bits
returns-else-is_suppressed-clause-bits c = grind (arith, common_steps)

pub returns-then-is_suppressed-clause-bound : goal.returns-then-is_suppressed-clause-bound
returns-then-is_suppressed-clause-bound c = grind (arith, common_steps)

pub returns-else-is_suppressed-clause-bound : goal.returns-else-is_suppressed-clause-bound
returns-else-is_suppressed-clause-bound c = grind (arith, common_steps)
