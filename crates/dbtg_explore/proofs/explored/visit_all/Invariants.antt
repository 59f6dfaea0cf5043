use Rattle.std.proofs.Common.{◌-◌}
use Rattle.dbtg_explore.specs.Inside.Walks.{StandsAmong}
use Rattle.dbtg_explore.proofs.Visiting.{IsOnTheWay}
use Rattle.dbtg_explore.proofs.explored.visit_all.Given as goal

abbrev pub invariant-loop-place : goal.invariant-loop-place
invariant-loop-place g l = IsOnTheWay l.meeting l.limit l.place l.search l.ends × StandsAmong l.meeting l.search.found.orders l.walk

abbrev pub decreases-loop-place : goal.decreases-loop-place
decreases-loop-place g l = l.limit - l.place
