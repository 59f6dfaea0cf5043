use Rattle.std.proofs.Common.{◌<◌, ◌+◌, ◌-◌, length, length-set, subst, sym, ◌∙◌, ap, arith}
use Rattle.dbtg_cells.specs.Inside.Ordered.{are_below}
use Rattle.dbtg_cells.proofs.PlacesOfNodes.{Labelled, labelled_more, left_more}
use Rattle.dbtg_cells.proofs.order.relabel.Goals as goal

pub loop-node-preserved : goal.loop-node-preserved
loop-node-preserved c =
    let nodes = c.args.nodes.now in
    let i = c.loop-node.node-index in
    let label = c.loop-node.label in
    let step = c.step_for-step.result in
    let low : i < length nodes = omega arith in
    let below = ap (λ k. are_below k nodes) c.loop-node.invariant.len ∙ c.requires.below in
    record {
      labelled = subst (λ ls. Labelled nodes ls (i + 1) (label + step)) (sym c.set_label.ensures) (labelled_more nodes c.loop-node.labels.items i label step low c.requires.distinct below c.step_for-step.ensures.some c.loop-node.invariant.labelled);
      len = ap length c.set_label.ensures ∙ length-set _ _ _ ∙ c.loop-node.invariant.len;
      left = omega (arith, left_more step (length nodes - (i + 1)) (length nodes - i) (omega arith), c.loop-node.invariant.left);
    }
