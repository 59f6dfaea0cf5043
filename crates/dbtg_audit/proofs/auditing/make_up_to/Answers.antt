use Rattle.std.proofs.Common.{[], refl, rules, sym, ◌∙◌}
use Rattle.std.specs.Vec.Iter.{into_iter_items}
use Rattle.dbtg_audit.proofs.Steps.{all_made_so, nothing_left, nothing_made, one_less, one_other}
use Rattle.dbtg_audit.proofs.auditing.make_up_to.Goals as goal

pub loop-one-init : goal.loop-one-init
loop-one-init c = ([], search rules, record { these = nothing_made c.args.database.now; so = refl }, search rules, search rules, search rules)

pub returns-then-not-branch : goal.returns-then-not-branch
returns-then-not-branch c =
    let so_far = c.loop-one.invariant in
    one_other c.args.statuses c.args.database.now c.loop-one.database c.make_one.new.database so_far.0 c.in-Some.one so_far.2 c.in_ok-make_one.ensures.0 _ c.in_ok-make_one.ensures.1 c.if-not-branch.true
    c.args.traced _ (into_iter_items c.next.new.self) c.in-Some.ensures.steps.0 so_far.1

pub loop-one-preserved-else-not-branch : goal.loop-one-preserved-else-not-branch
loop-one-preserved-else-not-branch c =
    let so_far = c.loop-one.invariant in
    one_less c.args.statuses c.args.database.now c.loop-one.database c.make_one.new.database so_far.0 c.in-Some.one so_far.2 c.in_ok-make_one.ensures.0 _ c.in_ok-make_one.ensures.1 c.if-not-branch.false
    c.args.traced _ (into_iter_items c.next.new.self) c.in-Some.ensures.steps.0 so_far.1 so_far.3 so_far.4 _ _ so_far.5 c.in-Some.ensures.steps.1

pub loop-one-preserved : goal.loop-one-preserved
loop-one-preserved c =
    let so_far = c.loop-one.invariant in
    one_less c.args.statuses c.args.database.now c.loop-one.database c.make_one.new.database so_far.0 c.in-Some.one so_far.2 c.in_ok-make_one.ensures.0 _ c.in_ok-make_one.ensures.1 c.if-not-branch.false
    c.args.traced _ (into_iter_items c.next.new.self) c.in-Some.ensures.steps.0 so_far.1 so_far.3 so_far.4 _ _ so_far.5 c.in-Some.ensures.steps.1

pub returns : goal.returns
returns c =
    let so_far = c.loop-one.invariant in
    let over = nothing_left _ (sym so_far.5 ∙ c.in-None.ensures.steps.0) in
    all_made_so c.args.statuses c.args.database.now c.loop-one.database so_far.0 _ c.args.traced over so_far.1 so_far.2
