use Rattle.std.proofs.Common.{◌≡◌}
use Rattle.dbtg_program.specs.Going.{within}
use Rattle.dbtg_program.proofs.going.next.Given as goal

abbrev pub invariant-loop-left : goal.invariant-loop-left
invariant-loop-left l = within l.schema l.program l.left l.last l.state ≡ within l.schema l.program 100000 0 l.fn.state

abbrev pub decreases-loop-left : goal.decreases-loop-left
decreases-loop-left l = l.left
