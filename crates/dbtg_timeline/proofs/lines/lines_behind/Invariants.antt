use Rattle.std.proofs.Common.{◌≡◌, ◌++◌, ◌+◌, drop, length}
use Rattle.dbtg_timeline.specs.Lines.{lines_from}
use Rattle.dbtg_timeline.proofs.lines.lines_behind.Given as goal

abbrev pub invariant-loop-event : goal.invariant-loop-event
invariant-loop-event l = record { lines : l.all.items ++ lines_from l.line (drop l.event-index l.events) ≡ lines_from l.fn.first l.events; count : l.line.first + length l.line.more ≡ l.fn.first.first + l.event-index }
