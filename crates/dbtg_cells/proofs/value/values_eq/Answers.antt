use Rattle.dbtg_cells.proofs.ValuesCompared.{values_eq_unlike}
use Rattle.dbtg_cells.proofs.value.values_eq.Goals as goal

pub returns-then-a-b : goal.returns-then-a-b
returns-then-a-b c = values_eq_unlike c.args.a.now c.args.b.now c.if-a-b.true
