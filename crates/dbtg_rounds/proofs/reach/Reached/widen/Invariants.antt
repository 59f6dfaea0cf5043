-- Nothing is lost, and the marked ends of the edges so far are seen.
use Rattle.std.specs.List.{AllWithin}
use Rattle.dbtg_rounds.specs.declared.edge.Edge.{Edge}
use Rattle.dbtg_rounds.specs.Inside.Reaching.{Grows, IsIn}
use Rattle.dbtg_rounds.proofs.reach.Reached.widen.Given as goal

abbrev pub invariant-loop-edge : goal.invariant-loop-edge
invariant-loop-edge l = record {
  grows : Grows l.graph.edges l.within l.initial.self l.self;
  seen : AllWithin (λ (e : Edge). IsIn l.within e.to → IsIn l.self.seen.items e.to) l.edge-items 0 l.edge-index;
}
