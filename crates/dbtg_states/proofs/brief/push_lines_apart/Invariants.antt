use Rattle.std.proofs.Common.{◌≡◌, ◌++◌, length}
use Rattle.dbtg_states.specs.Brief.{lines_apart}
use Rattle.dbtg_states.proofs.brief.push_lines_apart.Given as goal

abbrev pub invariant-loop-line : goal.invariant-loop-line
invariant-loop-line l = l.out.items ++ lines_apart l.mark l.left.rest.now l.other ≡ l.initial.out.items ++ lines_apart l.mark l.text l.other

abbrev pub decreases-loop-line : goal.decreases-loop-line
decreases-loop-line l = length l.left.rest.now
