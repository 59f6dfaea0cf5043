use Rattle.std.proofs.Common.{◌≡◌, length}
use Rattle.dbtg_program.specs.Going.{placed}
use Rattle.dbtg_program.proofs.state.place.Given as goal

abbrev pub invariant-loop-value : goal.invariant-loop-value
invariant-loop-value l = placed l.fields l.first l.values.items ≡ placed l.initial.fields l.first l.initial.values.items

abbrev pub decreases-loop-value : goal.decreases-loop-value
decreases-loop-value l = length l.values.items
