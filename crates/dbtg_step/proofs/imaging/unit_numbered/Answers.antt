use Rattle.std.proofs.Common.{sym, ◌∙◌, arith}
use Rattle.dbtg_step.proofs.TheCore.CellsFound.{unit_before, unit_none}
use Rattle.dbtg_step.proofs.imaging.unit_numbered.Goals as goal

pub returns-then-unit-eq0 : goal.returns-then-unit-eq0
returns-then-unit-eq0 c = sym (unit_none c.args.runners.now c.args.unit (omega arith))

pub returns : goal.returns
returns c = c.runner_at.ensures ∙ sym (unit_before c.args.runners.now c.args.unit (omega arith))
