use Rattle.std.proofs.Common.{refl, arith}
use Rattle.dbtg_cells.proofs.PlacesOfNodes.{ordered_without, same_order}
use Rattle.dbtg_cells.proofs.order.Order.remove.Goals as goal

pub invariant_of-self : goal.invariant_of-self
invariant_of-self c = same_order _ _ _ _ _ _ c.remove.ensures.items refl (omega (arith, c.remove.ensures.capacity)) (ordered_without _ _ _ c.args.place c.self.invariant)
