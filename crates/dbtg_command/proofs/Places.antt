-- Where each command stands among all.
use Rattle.std.proofs.Common.{ℕ}
use Rattle.dbtg_command.specs.declared.command.Named.{Named}
use Rattle.dbtg_command.specs.declared.command.Named.TheVariants as named

abbrev pub place : Named → ℕ
place named.Check = 2
place named.Replay = 3
place named.Turns = 4
place named.Timeline = 5
place named.Page = 6
place named.Threads = 7
place named.Run = 1
place named.Explore = 0
place named.Audit = 8
place named.Draw = 9
place named.Explain = 10
place named.Shell = 11
