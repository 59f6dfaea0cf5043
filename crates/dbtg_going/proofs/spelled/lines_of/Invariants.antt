use Rattle.std.proofs.Common.{◌≡◌, ◌++◌, length, map}
use Rattle.dbtg_script.specs.Lines.{lines}
use Rattle.dbtg_going.proofs.spelled.lines_of.Given as goal

abbrev pub invariant-loop-line : goal.invariant-loop-line
invariant-loop-line l = map (λ s. s.now) l.found.items ++ lines l.left.rest.now ≡ lines l.text

abbrev pub decreases-loop-line : goal.decreases-loop-line
decreases-loop-line l = length l.left.rest.now
