use Rattle.dbtg_explore.specs.Inside.Walks.{StandsAmong}
use Rattle.dbtg_explore.specs.Inside.Wishes.{HoldsBefore}
use Rattle.dbtg_explore.proofs.wishes.Wish.broken_among.Given as goal

abbrev pub invariant-loop-place : goal.invariant-loop-place
invariant-loop-place l = record { stands : StandsAmong l.meeting l.search.found.orders l.walk; holds : HoldsBefore l.meeting l.self l.search.found.orders l.place }
