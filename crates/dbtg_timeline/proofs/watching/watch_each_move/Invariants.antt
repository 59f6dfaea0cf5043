use Rattle.std.proofs.Common.{◌≡◌, ◌++◌, drop}
use Rattle.dbtg_step.specs.Core.Parts.{machine}
use Rattle.dbtg_timeline.specs.Events.{events_of}
use Rattle.dbtg_timeline.proofs.watching.watch_each_move.Given as goal

abbrev pub invariant-loop-one : goal.invariant-loop-one
invariant-loop-one l = l.events.items ++ events_of (machine l.core) (drop l.one-index l.moves) ≡ events_of (machine l.initial.core) l.moves
