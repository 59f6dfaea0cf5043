use Rattle.std.proofs.Common.{◌≡◌, take}
use Rattle.dbtg_timeline.specs.Strips.{strips}
use Rattle.dbtg_timeline.proofs.strips.strips_of.Given as goal

abbrev pub invariant-loop-line : goal.invariant-loop-line
invariant-loop-line l = l.all.items ≡ strips l.scripts (take l.line-index l.line-items)
