use Rattle.std.proofs.Common.{arith}
use Rattle.std.proofs.lemmas.Grind.{common_steps}
use Rattle.dbtg_unit.proofs.names.leave.Goals as goal

pub returns-else-at-place : goal.returns-else-at-place
returns-else-at-place c = grind (arith, common_steps)

pub returns-in_default : goal.returns-in_default
returns-in_default c = grind (arith, common_steps)

pub returns-then-at-place : goal.returns-then-at-place
returns-then-at-place c = grind (arith, common_steps)

pub returns-then-place-first : goal.returns-then-place-first
returns-then-place-first c = grind (arith, common_steps)
