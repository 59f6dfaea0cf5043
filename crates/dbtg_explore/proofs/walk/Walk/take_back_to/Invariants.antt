use Rattle.std.proofs.Common.{◌≡◌, ◌≤◌, length, take}
use Rattle.dbtg_explore.specs.Inside.Walks.{Stands}
use Rattle.dbtg_explore.specs.Orders.{Meeting}
use Rattle.dbtg_explore.proofs.walk.Walk.take_back_to.Given as goal

abbrev pub invariant-loop-self : goal.invariant-loop-self
invariant-loop-self l = ((m : Meeting) → Stands m l.initial.self → Stands m l.self) × (l.count ≤ length l.self.turns.items) × (l.self.turns.items ≡ take (length l.self.turns.items) l.initial.self.turns.items)

abbrev pub decreases-loop-self : goal.decreases-loop-self
decreases-loop-self l = length l.self.turns.items
