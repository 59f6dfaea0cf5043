use Rattle.std.proofs.Common.{◌≡◌, ◌++◌, take}
use Rattle.std.specs.Prelude.{map}
use Rattle.dbtg_states.specs.Named.{fact}
use Rattle.dbtg_states.proofs.facts.push_each.Given as goal

abbrev pub invariant-loop-thing : goal.invariant-loop-thing
invariant-loop-thing g l = l.facts ≡ l.initial.facts ++ map (λ x. fact l.head.kind l.head.of (g.T.Named.named l.stored x)) (take l.thing-index l.things)
