-- No way round begins in a state before this one.
use Rattle.std.proofs.Common.{◌<◌, ℕ, List}
use Rattle.dbtg_rounds.specs.Rounds.{IsRound}
use Rattle.dbtg_rounds.proofs.find.find_round.Given as goal

abbrev pub invariant-loop-state : goal.invariant-loop-state
invariant-loop-state l = (start : ℕ) (units : List ℕ) → start < l.state → IsRound l.fn.edges.items start units → ⊥
