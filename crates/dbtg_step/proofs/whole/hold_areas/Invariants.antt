use Rattle.std.proofs.Common.{◌≡◌, ◌++◌}
use Rattle.std.specs.List.{range_with_len}
use Rattle.dbtg_step.proofs.whole.hold_areas.Given as goal

abbrev pub invariant-loop-area : goal.invariant-loop-area
invariant-loop-area l = l.held ≡ record l.initial.held { areas = l.initial.held.areas ++ range_with_len 0 l.area }
