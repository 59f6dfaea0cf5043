use Rattle.std.proofs.Common.{◌≡◌, ◌++◌, ◌+◌, drop}
use Rattle.dbtg_replay.specs.Ordering.{serial_turns}
use Rattle.dbtg_replay.proofs.ordering.serial_turns.Given as goal

abbrev pub invariant-loop-script : goal.invariant-loop-script
invariant-loop-script l = record { turns : l.turns.items ++ serial_turns (l.unit + 1) (drop l.script-index l.scripts) ≡ serial_turns 1 l.scripts; count : l.unit ≡ l.script-index }
