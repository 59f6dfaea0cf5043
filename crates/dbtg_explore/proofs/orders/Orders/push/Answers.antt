use Rattle.std.proofs.Common.{ap, arith}
use Rattle.dbtg_explore.specs.declared.orders.Link.{Link}
use Rattle.dbtg_explore.proofs.Links.{pushed, still_linked}
use Rattle.dbtg_explore.proofs.orders.Orders.push.Goals as goal

pub invariant_of-self-2 : goal.invariant_of-self-2
invariant_of-self-2 c = still_linked _ _ _ c.self.view_is _ c.in_ok-push.ensures.items c.self.invariant (omega (arith, ap (λ (l : Link). l.before) c.in_ok-new.ensures, c.requires))

pub returns : goal.returns
returns c = pushed _ _ _ c.self.view_is _ c.in_ok-push.ensures.items _ _ c.in_ok-new.ensures
