use Rattle.std.proofs.Common.{drop, map, arith}
use Rattle.std.proofs.lemmas.Grind.{common_steps}
use Rattle.dbtg_replay.proofs.Told.{lines_done}
use Rattle.dbtg_replay.proofs.first.push_each_entry.Goals as goal

pub returns-then-i-history : goal.returns-then-i-history
returns-then-i-history c =
    let first = c.args.first in
    let i = c.loop-i.i in
    lines_done first.name.now first.capacity first.unit (map (λ s. s.now) (drop i c.args.lines.now)) c.args.history.now i c.loop-i.out.items _ (omega (arith, c.if-i-history.true)) c.loop-i.invariant

pub loop-i-preserved : goal.loop-i-preserved
loop-i-preserved c = grind (arith, common_steps)

pub returns : goal.returns
returns c = grind (arith, common_steps)
