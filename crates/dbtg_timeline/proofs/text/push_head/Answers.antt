use Rattle.std.proofs.Common.{ℕ, List, ◌++◌, ap, sym, ◌∙◌}
use Rattle.std.specs.Prelude.{codes}
use Rattle.std.proofs.lemmas.List.{append_assoc}
use Rattle.dbtg_timeline.specs.Text.{events_head, front_head, head_text, lane_heads}
use Rattle.dbtg_timeline.proofs.ThreeParts.{three_parts}
use Rattle.dbtg_timeline.proofs.text.push_head.Goals as goal

pub returns : goal.returns
unfolding events_head front_head head_text
returns c =
    let out = c.args.out.now.items in
    let lanes = lane_heads 1 c.args.scripts.now in
    three_parts out (codes "    MOVE UNIT") lanes (codes " " ++ events_head) _ _ _ c.in_ok-extend_from_slice.ensures.items c.in_ok-push_lane_heads.ensures c.in_ok-extend_from_slice-2.ensures.items
    ∙ ap (λ (text : List ℕ). out ++ text) (sym (append_assoc (codes "    MOVE UNIT" ++ lanes) (codes " ") events_head))
