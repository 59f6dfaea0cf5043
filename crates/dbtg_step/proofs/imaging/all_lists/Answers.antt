use Rattle.std.proofs.Common.{◌++◌, ◌∙◌, ap, arith}
use Rattle.dbtg_step.specs.Inside.Imaging.{found_in, lists_of}
use Rattle.dbtg_step.proofs.TheCore.RangePushes.{map_pushed}
use Rattle.dbtg_step.proofs.imaging.all_lists.Goals as goal

pub loop-set-preserved : goal.loop-set-preserved
loop-set-preserved c =
    let lists = lists_of c.args.schema.now (found_in c.args.schema.now c.args.capacity c.args.source) in
    map_pushed lists 0 c.loop-set.set c.loop-set.set (omega arith) c.of.result c.loop-set.all.items c.push.new.self.items c.loop-set.invariant c.in_ok-push.ensures.items
    (c.of.ensures ∙ c.in_ok-add_each_list.ensures ∙ ap (λ xs. xs ++ lists c.new.result) c.new-lists.ensures.items ∙ ap lists c.new.ensures)
