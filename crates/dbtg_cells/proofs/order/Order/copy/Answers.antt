use Rattle.std.proofs.Common.{◌∙◌, length, arith}
use Rattle.dbtg_cells.proofs.PlacesOfNodes.{same_order}
use Rattle.dbtg_cells.proofs.order.Order.copy.Goals as goal

pub invariant_of-result : goal.invariant_of-result
invariant_of-result c =
    let O = c.self.invariant in
    let labels = c.self.inside.labels.items in
    same_order c.self.inside.nodes.items _ labels _ (length labels) _ (c.in_ok-nodes.ensures.items ∙ c.as_slice.ensures.value) (c.in_ok-labels.ensures.items ∙ c.as_slice-2.ensures.value) (omega (arith, c.in_ok-nodes.ensures.room, c.len.ensures))
    (record { rising = O.rising; below = O.below; room = omega arith; numbers = O.numbers })
