use Rattle.std.proofs.Common.{◌≡◌, false}
use Rattle.std.specs.List.{list_any, range_with_len}
use Rattle.dbtg_explore.specs.Inside.Standing.{goes_on_in}
use Rattle.dbtg_explore.proofs.meeting.Meeting.one_goes_on.Given as goal

abbrev pub invariant-loop-before : goal.invariant-loop-before
invariant-loop-before l = list_any (goes_on_in l.self l.numbers l.state) (range_with_len 1 l.before) ≡ false
