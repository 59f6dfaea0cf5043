use Rattle.std.proofs.Common.{◌≡◌, drop}
use Rattle.std.specs.Prelude.{fold}
use Rattle.clap.specs.Simple.{app_of}
use Rattle.dbtg_command.specs.Commands.{program}
use Rattle.dbtg_command.specs.Inside.Commands.{with_command}
use Rattle.dbtg_command.specs.declared.command.TheConstants.{ALL}
use Rattle.dbtg_command.proofs.command.command.Given as goal

-- this command and the commands that are left make the program
abbrev pub invariant-loop-named : goal.invariant-loop-named
invariant-loop-named l = fold with_command (app_of l.command) (drop l.named-index ALL) ≡ program
