use Rattle.std.proofs.Common.{◌≡◌, drop}
use Rattle.dbtg_timeline.specs.Lines.{drawn_in}
use Rattle.dbtg_timeline.proofs.lines.drawn_in.Given as goal

abbrev pub invariant-loop-event : goal.invariant-loop-event
invariant-loop-event l = drawn_in (drop l.event-index l.events) ≡ drawn_in l.events
