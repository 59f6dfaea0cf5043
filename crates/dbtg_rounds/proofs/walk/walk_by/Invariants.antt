-- No edge from the states so far reaches the goal in a marked state.
use Rattle.std.proofs.Common.{◌≡◌, ◌<◌, ℕ, Contains, true, get_or}
use Rattle.dbtg_rounds.specs.declared.edge.Edge.{Edge}
use Rattle.dbtg_rounds.specs.Inside.Reaching.{IsIn, meets}
use Rattle.dbtg_rounds.proofs.walk.walk_by.Given as goal

abbrev pub invariant-loop-place : goal.invariant-loop-place
invariant-loop-place l = (k : ℕ) (e : Edge) → k < l.place → get_or l.reached.states.items k e.from ≡ e.from → Contains l.graph.edges e → IsIn l.within e.to → meets l.goal e ≡ true → ⊥
