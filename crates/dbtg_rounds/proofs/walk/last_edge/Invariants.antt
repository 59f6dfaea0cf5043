-- None of the edges so far reaches the goal in a marked state.
use Rattle.std.proofs.Common.{◌≡◌, ◌<◌, ℕ, true, get_or}
use Rattle.dbtg_rounds.specs.declared.edge.Edge.{Edge}
use Rattle.dbtg_rounds.specs.Inside.Reaching.{IsIn, meets}
use Rattle.dbtg_rounds.proofs.walk.last_edge.Given as goal

abbrev pub invariant-loop-edge : goal.invariant-loop-edge
invariant-loop-edge l = (k : ℕ) (e : Edge) → k < l.edge-index → get_or l.edge-items k e ≡ e → IsIn l.within e.to → meets l.goal e ≡ true → ⊥
