use Rattle.std.proofs.Common.{◌≡◌, ◌+◌, ◌++◌, drop}
use Rattle.dbtg_running.specs.Echoing.{scripts_made}
use Rattle.dbtg_running.proofs.echo.scripts_made.Given as goal

abbrev pub invariant-loop-i : goal.invariant-loop-i
invariant-loop-i l = l.made.items ++ scripts_made l.schema (l.i + 1) (drop l.i l.texts) l.history ≡ scripts_made l.schema 1 l.texts l.history
