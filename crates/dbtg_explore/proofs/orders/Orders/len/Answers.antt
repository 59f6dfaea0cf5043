use Rattle.std.proofs.Common.{◌≡◌, ◌+◌, List, ℕ, length, subst, arith}
use Rattle.dbtg_explore.proofs.Links.{length_of}
use Rattle.dbtg_explore.proofs.orders.Orders.len.Goals as goal

pub returns : goal.returns
returns c = subst (λ (os : List (List ℕ)). c.len.result + 1 ≡ length os) c.self.view_is (omega (arith, c.len.ensures, length_of c.self.inside.links.items))
