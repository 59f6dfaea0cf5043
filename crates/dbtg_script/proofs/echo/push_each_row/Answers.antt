use Rattle.std.proofs.Common.{◌++◌, ◌∙◌, ap, drop, map, arith}
use Rattle.std.proofs.lemmas.Grind.{common_steps}
use Rattle.dbtg_script.specs.Printing.Echo.{rows_text}
use Rattle.dbtg_script.proofs.Printing.Beside.{rows_done}
use Rattle.dbtg_script.proofs.echo.push_each_row.Goals as goal

pub returns-then-i-history : goal.returns-then-i-history
returns-then-i-history c =
    let i = c.loop-i.i in
    rows_done c.args.schema.now c.column-width.result c.args.notes.now (map (λ s. s.now) (drop i c.args.lines.now)) c.args.history.now i c.loop-i.out.items _ (omega (arith, c.if-i-history.true)) c.loop-i.invariant
    ∙ ap (λ w. c.args.out.now.items ++ rows_text c.args.schema.now w c.args.notes.now (map (λ s. s.now) c.args.lines.now) c.args.history.now) c.column-width.ensures

pub loop-i-preserved : goal.loop-i-preserved
loop-i-preserved c = grind (arith, common_steps)

pub returns : goal.returns
returns c = grind (arith, common_steps)

pub returns-in_err-push_row : goal.returns-in_err-push_row
returns-in_err-push_row c = grind (arith, common_steps)
