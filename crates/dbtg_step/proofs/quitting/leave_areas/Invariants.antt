use Rattle.std.proofs.Common.{◌≡◌, length}
use Rattle.dbtg_step.proofs.quitting.leave_areas.Given as goal

abbrev pub invariant-loop-area : goal.invariant-loop-area
invariant-loop-area l = l.held ≡ record l.initial.held { areas = l.held.areas }

abbrev pub decreases-loop-area : goal.decreases-loop-area
decreases-loop-area l = length l.held.areas
