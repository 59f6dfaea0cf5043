use Rattle.inventory_clerks.proofs.Filling.{filled_behind}
use Rattle.inventory_clerks.proofs.clerk.fill.Goals as goal

pub returns-then-branch-clause-filled : goal.returns-then-branch-clause-filled
returns-then-branch-clause-filled g c = filled_behind _ _ _ _ c.again.invariant.grown (c.in_ok-try_to_fill.ensures.filled c.if-branch.true)
