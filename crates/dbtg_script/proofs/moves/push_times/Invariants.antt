use Rattle.std.proofs.Common.{◌≡◌, ◌++◌}
use Rattle.std.specs.Prelude.{replicate}
use Rattle.dbtg_script.proofs.moves.push_times.Given as goal

abbrev pub invariant-loop : goal.invariant-loop
invariant-loop g l = l.entries.items ≡ l.initial.entries.items ++ replicate l.counter l.one
