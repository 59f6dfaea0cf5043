-- The turns so far lead from the state by way of marked states, with one of the unit of each edge so far.
use Rattle.std.proofs.Common.{◌≡◌, ◌<◌, ℕ, Contains, get_or}
use Rattle.dbtg_rounds.specs.declared.edge.Edge.{Edge}
use Rattle.dbtg_rounds.specs.Inside.Reaching.{IsIn, LeadsIn}
use Rattle.dbtg_rounds.proofs.round.take_each.Given as goal

abbrev pub invariant-loop-edge : goal.invariant-loop-edge
invariant-loop-edge l = record {
  leads : LeadsIn l.graph.edges l.within l.start l.taken.units.items l.taken.end;
  marked : IsIn l.within l.taken.end;
  low : l.taken.end < l.graph.states;
  each : (k : ℕ) (e : Edge) → k < l.edge-index → get_or l.edge-items k e ≡ e → Contains l.taken.units.items e.unit;
}
