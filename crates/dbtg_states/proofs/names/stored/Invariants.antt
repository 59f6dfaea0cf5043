use Rattle.std.proofs.Common.{◌≡◌}
use Rattle.std.specs.List.{range_with_len}
use Rattle.dbtg_states.specs.Named.{stored}
use Rattle.dbtg_states.proofs.names.stored.Given as goal

abbrev pub invariant-loop-before : goal.invariant-loop-before
invariant-loop-before l = l.keys.items ≡ stored (range_with_len 1 l.before) l.history
