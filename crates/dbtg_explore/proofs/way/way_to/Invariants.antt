use Rattle.std.proofs.Common.{◌≤◌, length}
use Rattle.dbtg_explore.proofs.Ways.{IsClimbing}
use Rattle.dbtg_explore.proofs.way.way_to.Given as goal

abbrev pub invariant-loop-last : goal.invariant-loop-last
invariant-loop-last l = IsClimbing l.found.orders l.place l.at l.rest.items × (l.stay ≤ length l.turns)

abbrev pub decreases-loop-last : goal.decreases-loop-last
decreases-loop-last l = l.at
