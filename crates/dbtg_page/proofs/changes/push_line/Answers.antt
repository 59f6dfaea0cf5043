use Rattle.std.proofs.Common.{◌<◌, ap, drop, length, arith}
use Rattle.dbtg_page.specs.declared.changes.Kind.TheVariants.{Line}
use Rattle.dbtg_page.specs.Json.{field}
use Rattle.dbtg_page.specs.Changes.{turned, word_ops}
use Rattle.dbtg_page.specs.Inside.Telling.{lines_left}
use Rattle.dbtg_page.proofs.Telling.{both_ok, comes, line_met, met_moved, old_at}
use Rattle.dbtg_page.proofs.changes.push_line.Goals as goal

pub returns-in_ok-push_line_op-in-None-clause-text :
    goal.returns-in_ok-push_line_op-in-None-clause-text
unfolding lines_left
returns-in_ok-push_line_op-in-None-clause-text c =
    comes Line turned field
    (word_ops 0) c.args.both.now.before.now c.args.both.now.after.now c.args.i _ c.requires.new c.args.told c.args.out.now.items c.push_line_op.new.out.items
    (met_moved Line c.behind.result.now _ c.behind-2.result.now _ _ c.met.result _ c.met.ensures.met c.in-None.is c.behind.ensures c.behind-2.ensures) c.in_ok-push_line_op-in-None.ensures

pub returns-in_ok-push_lines_gone-in-Some-clause-text :
    goal.returns-in_ok-push_lines_gone-in-Some-clause-text
returns-in_ok-push_lines_gone-in-Some-clause-text c =
    let stands : c.in-Some.count < length (drop c.args.told.at c.args.both.now.before.now) = omega
    (arith, c.in-Some.ensures.stands, ap length c.behind.ensures) in
    both_ok c.push_met.result c.push_met.ensures.stays c.push_met.ensures.turns (λ then stays turns.
    line_met c.args.both.now.before.now c.args.both.now.after.now c.args.i _ c.requires.new c.args.told c.in-Some.count _ c.args.out.now.items c.push_lines_gone.new.out.items c.push_met.new.out.items then c.behind_met.result
    (met_moved Line c.behind.result.now _ c.behind-2.result.now _ _ c.met.result _ c.met.ensures.met c.in-Some.is c.behind.ensures c.behind-2.ensures)
    (old_at c.args.both.now.before.now c.args.told.at c.in-Some.count _ stands)
    c.in_ok-push_lines_gone-in-Some.ensures c.behind_met.ensures stays turns)
