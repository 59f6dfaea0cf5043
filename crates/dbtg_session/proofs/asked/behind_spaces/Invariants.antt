use Rattle.std.proofs.Common.{◌≡◌, length}
use Rattle.dbtg_session.specs.Asking.{behind_spaces}
use Rattle.dbtg_session.proofs.asked.behind_spaces.Given as goal

abbrev pub invariant-loop-behind : goal.invariant-loop-behind
invariant-loop-behind l = behind_spaces l.rest ≡ behind_spaces l.line

abbrev pub decreases-loop-behind : goal.decreases-loop-behind
decreases-loop-behind l = length l.rest
