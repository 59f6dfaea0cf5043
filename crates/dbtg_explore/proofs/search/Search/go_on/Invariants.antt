use Rattle.std.proofs.Common.{◌+◌}
use Rattle.dbtg_explore.specs.Inside.Steps.{Goes}
use Rattle.dbtg_explore.specs.Inside.Walks.{StandsAmong}
use Rattle.dbtg_explore.proofs.search.Search.go_on.Given as goal

abbrev pub invariant-loop-before : goal.invariant-loop-before
invariant-loop-before l = Goes l.meeting l.place (l.before + 1) l.initial.self l.self × StandsAmong l.meeting l.self.found.orders l.walk
