use Rattle.std.proofs.Common.{sym, ◌∙◌, arith}
use Rattle.dbtg_cells.proofs.CalcOrder.{picked_shorter}
use Rattle.dbtg_cells.proofs.by_calc.compare_picked.Goals as goal

pub returns-then-item_numbers-values : goal.returns-then-item_numbers-values
returns-then-item_numbers-values c =
    sym (picked_shorter c.loop-i.i c.args.item_numbers.now c.args.items.now c.args.values.now (omega arith) (omega (arith, c.if-item_numbers-values.true))) ∙ c.loop-i.invariant
