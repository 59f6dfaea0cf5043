use Rattle.std.proofs.Common.{◌≡◌, drop}
use Rattle.dbtg_timeline.specs.Lines.{below_in}
use Rattle.dbtg_timeline.proofs.lines.below_in.Given as goal

abbrev pub invariant-loop-event : goal.invariant-loop-event
invariant-loop-event l = below_in (drop l.event-index l.events) ≡ below_in l.events
