use Rattle.std.proofs.Common.{map, take}
use Rattle.dbtg_command.specs.Inside.Commands.{IsApp, alone, rule_for}
use Rattle.dbtg_command.proofs.command.described.Given as goal

-- the command has the words so far
abbrev pub invariant-loop-word : goal.invariant-loop-word
invariant-loop-word l = IsApp (alone l.name (map rule_for (take l.word-index l.words))) l.command
