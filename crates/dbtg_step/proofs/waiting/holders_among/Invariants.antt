use Rattle.std.proofs.Common.{◌≡◌, ◌+◌, ◌++◌, drop}
use Rattle.dbtg_step.specs.Inside.Waiting.{numbers_from}
use Rattle.dbtg_step.proofs.waiting.holders_among.Given as goal

abbrev pub invariant-loop-index : goal.invariant-loop-index
invariant-loop-index l = l.holders.items ++ numbers_from l.unit l.awaited (l.index + 1) (drop l.index l.runners) ≡ numbers_from l.unit l.awaited 1 l.runners
