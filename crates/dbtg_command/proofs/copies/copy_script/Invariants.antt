use Rattle.std.proofs.Common.{◌≡◌, take}
use Rattle.dbtg_command.proofs.copies.copy_script.Given as goal

abbrev pub invariant-loop-statement : goal.invariant-loop-statement
invariant-loop-statement l = l.copy.items ≡ take l.statement-index l.script
