use Rattle.std.proofs.Common.{◌≡◌, ◌++◌, map}
use Rattle.std.specs.List.{range_with_len}
use Rattle.dbtg_timeline.specs.Strips.{strip_at}
use Rattle.dbtg_timeline.proofs.strips.push_strips_by.Given as goal

abbrev pub invariant-loop-index : goal.invariant-loop-index
invariant-loop-index l = l.strips.items ≡ l.initial.strips.items ++ map (strip_at l.line l.letters l.words) (range_with_len 0 l.index)
