use Rattle.std.proofs.Common.{◌≡◌}
use Rattle.dbtg_states.proofs.transitions.Transitions.way_by.Given as goal

abbrev pub invariant-loop-look : goal.invariant-loop-look
invariant-loop-look l = l.self ≡ l.initial.self
