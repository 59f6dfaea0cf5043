use Rattle.std.proofs.Common.{◌≡◌, map, take}
use Rattle.dbtg_timeline.specs.Notes.{noted}
use Rattle.dbtg_timeline.proofs.noting.noted_events.Given as goal

abbrev pub invariant-loop-event : goal.invariant-loop-event
invariant-loop-event l = l.told.items ≡ map (noted l.notes) (take l.event-index l.events)
