use Rattle.std.proofs.Common.{◌≡◌, length}
use Rattle.dbtg_states.specs.Among.{among}
use Rattle.dbtg_script.specs.Lines.{lines}
use Rattle.dbtg_states.proofs.brief.has_line.Given as goal

abbrev pub invariant-loop-other : goal.invariant-loop-other
invariant-loop-other l = among (lines l.left.rest.now) l.line ≡ among (lines l.text) l.line

abbrev pub decreases-loop-other : goal.decreases-loop-other
decreases-loop-other l = length l.left.rest.now
