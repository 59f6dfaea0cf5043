use Rattle.std.proofs.Common.{◌≡◌, ◌≤◌}
use Rattle.dbtg_command.specs.Commands.{name_of}
use Rattle.dbtg_command.specs.declared.command.Named.{Named}
use Rattle.dbtg_command.proofs.Places.{place}
use Rattle.dbtg_command.proofs.call.named_of.Given as goal

-- the command with the name is none of those before
abbrev pub invariant-loop-named : goal.invariant-loop-named
invariant-loop-named l = (asked : Named) → name_of asked ≡ l.word → l.named-index ≤ place asked
