use Rattle.std.proofs.Common.{◌≤◌, vec_len, vec_capacity, refl, ap, arith, is_ok}
use Rattle.dbtg_cells.proofs.PlacesOfNodes.{few_nodes, added, same_order, resized}
use Rattle.dbtg_cells.proofs.order.Order.reserve_labels.Goals as goal

pub overflow_sub-room : goal.overflow_sub-room
overflow_sub-room c = omega (arith, few_nodes _ _ _ c.self.invariant, ap (λ v. v.room) c.self.view_is, c.requires.more, c.len.ensures)

pub invariant_of-self-2 : goal.invariant_of-self-2
invariant_of-self-2 c =
    let labels = c.self.inside.labels.items in
    let more : vec_len c.self.inside.labels ≤ c.args.room = omega (arith, ap (λ v. v.room) c.self.view_is, c.requires.more) in
    let sized = resized (is_ok c.resize.result) (vec_len c.self.inside.labels) c.args.room (vec_len c.resize.new.self) c.resize.ensures.len more in
    let ordered = added _ labels c.resize.new.self.items (vec_capacity c.self.inside.nodes) (vec_capacity c.reserve.new.self) (omega (arith, sized.0)) (λ n low. c.resize.ensures.by_index.0 n 0 (omega (arith, low, more)) (omega (arith, low))) (omega (arith, sized.1, c.in_ok-reserve.ensures.ok)) (omega (arith, sized.1, c.requires.numbers)) c.self.invariant in
    same_order _ _ _ _ _ _ c.reserve.ensures.items refl (omega arith) ordered
