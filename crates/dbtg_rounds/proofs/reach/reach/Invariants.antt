-- The states in front of the place are widened. At most all states are.
use Rattle.std.proofs.Common.{◌-◌}
use Rattle.dbtg_rounds.proofs.Reached.{IsReaching}
use Rattle.dbtg_rounds.proofs.reach.reach.Given as goal

abbrev pub invariant-loop-place : goal.invariant-loop-place
invariant-loop-place l = IsReaching l.graph.edges l.within l.start l.graph.states l.place l.reached

abbrev pub decreases-loop-place : goal.decreases-loop-place
decreases-loop-place l = l.graph.states - l.place
