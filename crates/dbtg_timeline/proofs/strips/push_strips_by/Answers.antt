use Rattle.std.proofs.Common.{List, [], ◌∷◌, ◌++◌, map, sym, ap, ◌∙◌, arith}
use Rattle.std.specs.List.{range_with_len}
use Rattle.std.proofs.lemmas.List.{append_assoc}
use Rattle.std.proofs.lemmas.List.FromFn.{map-range_with_len_more}
use Rattle.dbtg_timeline.specs.declared.strips.Strip.{Strip}
use Rattle.dbtg_timeline.specs.Strips.{strip_at}
use Rattle.dbtg_timeline.proofs.strips.push_strips_by.Goals as goal

pub loop-index-preserved : goal.loop-index-preserved
loop-index-preserved c =
    let f = strip_at c.args.line.now c.args.letters.now c.args.words.now in
    let n = c.loop-index.index in
    let before = c.args.strips.now.items in
    c.in_ok-push.ensures.items ∙ (λ i. c.loop-index.invariant i ++ c.in_ok-strip_at.ensures i ∷ []) ∙ append_assoc before (map f (range_with_len 0 n)) (f n ∷ [])
    ∙ ap (λ (xs : List Strip). before ++ xs) (sym (map-range_with_len_more f 0 n n (omega arith)))
