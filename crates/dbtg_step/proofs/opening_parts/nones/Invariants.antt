use Rattle.std.proofs.Common.{◌≡◌, replicate, None}
use Rattle.dbtg_step.proofs.opening_parts.nones.Given as goal

abbrev pub invariant-loop-turn : goal.invariant-loop-turn
invariant-loop-turn g l = l.items.items ≡ replicate l._turn None
