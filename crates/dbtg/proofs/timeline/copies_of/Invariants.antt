use Rattle.std.proofs.Common.{◌≡◌, take, map}
use Rattle.dbtg.proofs.timeline.copies_of.Given as goal

abbrev pub invariant-loop-line : goal.invariant-loop-line
invariant-loop-line l = l.copies.items ≡ map (λ s. s.now) (take l.line-index l.lines)
