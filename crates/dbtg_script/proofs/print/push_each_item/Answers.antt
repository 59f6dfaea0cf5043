use Rattle.std.proofs.Common.{◌≡◌, ◌++◌, ap, arith, drop, length}
use Rattle.std.proofs.lemmas.Grind.{common_steps}
use Rattle.dbtg_script.specs.Printing.Texts.{items_text}
use Rattle.dbtg_script.proofs.print.push_each_item.Goals as goal

pub returns : goal.returns
returns c = grind (arith, common_steps)

pub loop-i-preserved : goal.loop-i-preserved
loop-i-preserved c = grind (arith, common_steps)

pub returns-in_err-push_item : goal.returns-in_err-push_item
returns-in_err-push_item c =
    let rest = items_text (drop c.loop-i.i c.args.values.now) (drop c.loop-i.i c.args.items.now) in
    let long : length (c.loop-i.out.items ++ rest) ≡ length (c.args.out.now.items ++ items_text c.args.values.now c.args.items.now) = ap length c.loop-i.invariant.0 in
    grind (arith, common_steps)
