use Rattle.std.proofs.Common.{◌≡◌, false}
use Rattle.std.specs.List.{list_any, range_with_len}
use Rattle.dbtg_explore.specs.Inside.Standing.{keeps_beside}
use Rattle.dbtg_explore.proofs.meeting.Meeting.is_kept_beside.Given as goal

abbrev pub invariant-loop-before : goal.invariant-loop-before
invariant-loop-before l = list_any (keeps_beside l.numbers l.state l.unit) (range_with_len 1 l.before) ≡ false
