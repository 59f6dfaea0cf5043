use Rattle.std.proofs.Common.{sym, ◌∙◌, arith, length, ◌≤◌}
use Rattle.std.proofs.lemmas.Grind.{common_steps}
use Rattle.dbtg_cells.proofs.CalcOrder.{values_ended, values_shorter}
use Rattle.dbtg_cells.proofs.by_calc.values_cmp.Goals as goal

pub returns-in-None : goal.returns-in-None
returns-in-None c =
    let ended : length c.args.b.now ≤ c.loop-i.i = grind (arith, c.in-None.ensures.lookup.0) in
    sym (values_ended c.loop-i.i c.args.a.now c.args.b.now ended (omega arith)) ∙ c.loop-i.invariant

pub returns-then-a-b : goal.returns-then-a-b
returns-then-a-b c = sym (values_shorter c.loop-i.i c.args.a.now c.args.b.now (omega arith) (omega (arith, c.if-a-b.true))) ∙ c.loop-i.invariant

pub loop-i-preserved : goal.loop-i-preserved
loop-i-preserved c = grind (arith, common_steps)

pub returns-else-a-b : goal.returns-else-a-b
returns-else-a-b c = grind (arith, common_steps)
