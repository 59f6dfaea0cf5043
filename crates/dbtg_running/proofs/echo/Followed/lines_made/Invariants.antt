use Rattle.std.proofs.Common.{◌≡◌, ◌++◌, drop, map}
use Rattle.dbtg_unit.specs.Database.Laws.Replay.{entries_of}
use Rattle.dbtg_program.specs.States.{beginning}
use Rattle.dbtg_running.specs.Echoing.{lines_made}
use Rattle.dbtg_running.proofs.echo.Followed.lines_made.Given as goal

abbrev pub invariant-loop-entry : goal.invariant-loop-entry
invariant-loop-entry l =
    l.made.items ++ lines_made l.self.schema.now l.self.program.now (map (λ s. s.now) l.self.lines.now) l.state (entries_of l.unit (drop l.entry-index l.history))
    ≡ lines_made l.self.schema.now l.self.program.now (map (λ s. s.now) l.self.lines.now) (beginning l.self.program.now) (entries_of l.unit l.history)
