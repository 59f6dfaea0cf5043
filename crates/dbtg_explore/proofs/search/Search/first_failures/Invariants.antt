use Rattle.std.proofs.Common.{take}
use Rattle.dbtg_explore.specs.Inside.Failures.{AreFirst}
use Rattle.dbtg_explore.proofs.search.Search.first_failures.Given as goal

abbrev pub invariant-loop-failure : goal.invariant-loop-failure
invariant-loop-failure l = AreFirst l.meeting l.self.found.orders (take l.failure-index l.failures) l.firsts.items
