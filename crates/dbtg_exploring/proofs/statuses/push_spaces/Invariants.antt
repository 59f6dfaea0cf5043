use Rattle.std.proofs.Common.{◌≡◌, ◌++◌, replicate}
use Rattle.dbtg_exploring.proofs.statuses.push_spaces.Given as goal

abbrev pub invariant-loop-turn : goal.invariant-loop-turn
invariant-loop-turn l = l.out.items ≡ l.initial.out.items ++ replicate l._turn 32
