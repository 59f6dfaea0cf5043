use Rattle.std.proofs.Common.{◌∙◌, sym, [], ◌∷◌, ◌++◌, arith}
use Rattle.std.proofs.lemmas.List.FromFn.{map-range_with_len_more}
use Rattle.dbtg_explore.specs.Counted.{reads}
use Rattle.dbtg_explore.proofs.reads.items_read.Goals as goal

pub loop-item-preserved : goal.loop-item-preserved
loop-item-preserved c =
    let p = c.args.program.now in
    let item = c.loop-item.item in
    c.in_ok-push.ensures.items ∙ (λ i. c.loop-item.invariant i ++ c.reads.ensures i ∷ []) ∙ sym (map-range_with_len_more (reads p) 0 item item (omega arith))
