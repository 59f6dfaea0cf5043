use Rattle.std.proofs.Common.{[], ◌∷◌, ◌++◌, rules, sym, ◌∙◌}
use Rattle.std.specs.Vec.Iter.{into_iter_items}
use Rattle.dbtg_audit.proofs.Steps.{all_left, all_told, nothing_left, one_fewer, nothing_told, one_told, split_left}
use Rattle.dbtg_audit.proofs.every.tell_all.Goals as goal

pub loop-one-init : goal.loop-one-init
loop-one-init c = ([], search rules, nothing_told c.args.statuses c.args.schema.now c.args.database.now c.args.out.now.items, search rules, search rules, search rules)

pub loop-one-preserved : goal.loop-one-preserved
loop-one-preserved c =
    let so_far = c.loop-one.invariant in
    let here = c.in-Some.one in
    let left = c.in-Some.ensures.steps.0 in
    let behind = into_iter_items c.next.new.self in (
      so_far.0 ++ here ∷ [],
      split_left so_far.0 _ behind c.args.traced here left so_far.1,
      one_told c.args.statuses c.args.schema.now c.args.database.now c.loop-one.database c.make_one.new.database so_far.0 here c.args.out.now.items c.loop-one.out.items c.make_one.new.out.items c.loop-one.so _ so_far.2 c.in_ok-is.ensures.made
          c.in_ok-is.ensures.so c.in_ok-is.ensures.told,
      all_left _ _ behind here left so_far.3,
      all_left _ _ behind here left so_far.4,
      one_fewer _ _ behind here _ left c.in-Some.ensures.steps.1 so_far.5,
    )

pub returns : goal.returns
returns c =
    let so_far = c.loop-one.invariant in
    let over = nothing_left _ (sym so_far.5 ∙ c.in-None.ensures.steps.0) in
    all_told c.args.statuses c.args.schema.now c.args.database.now c.loop-one.database c.args.out.now.items c.loop-one.out.items c.loop-one.so so_far.0 _ c.args.traced over so_far.1 so_far.2
