use Rattle.std.proofs.Common.{drop, map, arith}
use Rattle.dbtg_trace.proofs.PrintedSteps.{lines_done}
use Rattle.dbtg_trace.proofs.printed.push_each_line.Goals as goal

pub returns-then-i-history : goal.returns-then-i-history
returns-then-i-history c =
    let i = c.loop-i.i in
    lines_done c.args.schema.now (map (λ s. s.now) (drop i c.args.statements.now)) c.args.history.now i c.loop-i.out.items _ (omega (arith, c.if-i-history.true)) c.loop-i.invariant
