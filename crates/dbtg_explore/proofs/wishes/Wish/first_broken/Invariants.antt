use Rattle.std.proofs.Common.{◌-◌}
use Rattle.dbtg_explore.specs.Inside.Steps.{IsAt}
use Rattle.dbtg_explore.specs.Inside.Walks.{StandsAmong}
use Rattle.dbtg_explore.specs.Inside.Wishes.{HoldsBefore}
use Rattle.dbtg_explore.proofs.wishes.Wish.first_broken.Given as goal

abbrev pub invariant-loop-place : goal.invariant-loop-place
invariant-loop-place g l = record {
  at : IsAt l.meeting l.place 0 l.search;
  stands : StandsAmong l.meeting l.search.found.orders l.walk;
  holds : HoldsBefore l.meeting l.self l.search.found.orders l.place;
}

abbrev pub decreases-loop-place : goal.decreases-loop-place
decreases-loop-place g l = l.limit - l.place
