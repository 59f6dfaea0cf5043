use Rattle.std.proofs.Common.{◌≡◌}
use Rattle.dbtg_interned.specs.Inside.Mixed.{mixed}
use Rattle.dbtg_interned.proofs.nodes.mix.Given as goal

abbrev pub invariant-loop-i : goal.invariant-loop-i
invariant-loop-i l = l.mix ≡ mixed l.numbers l.i
