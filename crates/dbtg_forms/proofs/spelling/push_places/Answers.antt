use Rattle.std.proofs.Common.{◌∙◌, sym, ap, ◌∷◌, ◌++◌, [], append_assoc, get_or, map, take}
use Rattle.std.proofs.lemmas.List.{map_more}
use Rattle.dbtg_forms.specs.Forms.{place}
use Rattle.dbtg_forms.proofs.spelling.push_places.Goals as goal

pub loop-vertex-preserved : goal.loop-vertex-preserved
loop-vertex-preserved c =
    let at = c.loop-vertex.vertex-index in
    let own = c.args.order.now in
    let all = c.args.vertices.now in
    c.in_ok-push.ensures.items ∙ (λ i. c.loop-vertex.invariant i ++ c.place.ensures i ∷ [])
    ∙ append_assoc c.args.out.now.items (map (place own) (take at all)) (place own (get_or all at 0) ∷ [])
    ∙ ap (λ l. c.args.out.now.items ++ l) (sym (map_more (place own) all at 0 c.loop-vertex-test.true))
