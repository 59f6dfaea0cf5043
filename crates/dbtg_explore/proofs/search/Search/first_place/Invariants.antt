use Rattle.dbtg_explore.proofs.FirstFailures.{IsAhead}
use Rattle.dbtg_explore.proofs.search.Search.first_place.Given as goal

abbrev pub invariant-loop-place : goal.invariant-loop-place
invariant-loop-place l = IsAhead l.meeting l.self.found.orders l.failure l.place
