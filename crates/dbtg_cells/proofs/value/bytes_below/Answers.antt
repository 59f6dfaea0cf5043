use Rattle.std.proofs.Common.{sym, ◌∙◌, arith, length, ◌≤◌}
use Rattle.std.proofs.lemmas.Grind.{common_steps}
use Rattle.dbtg_cells.proofs.ValuesCompared.{bytes_lt_ended}
use Rattle.dbtg_cells.proofs.value.bytes_below.Goals as goal

pub returns-in-None : goal.returns-in-None
returns-in-None c =
    let ended : length c.args.a.now ≤ c.loop-i.i = grind (arith, c.in-None.ensures.lookup.0) in
    sym (bytes_lt_ended c.loop-i.i c.args.a.now c.args.b.now ended (omega arith)) ∙ c.loop-i.invariant

pub loop-i-preserved : goal.loop-i-preserved
loop-i-preserved c = grind (arith, common_steps)

pub returns : goal.returns
returns c = grind (arith, common_steps)

pub returns-then-x-y : goal.returns-then-x-y
returns-then-x-y c = grind (arith, common_steps)
