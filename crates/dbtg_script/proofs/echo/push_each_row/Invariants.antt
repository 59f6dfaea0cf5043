use Rattle.std.proofs.Common.{◌≡◌, ◌++◌, drop, map}
use Rattle.dbtg_script.specs.Printing.Echo.{rows_text}
use Rattle.dbtg_script.proofs.echo.push_each_row.Given as goal

abbrev pub invariant-loop-i : goal.invariant-loop-i
invariant-loop-i l = l.out.items ++ rows_text l.schema l.width l.notes (map (λ s. s.now) (drop l.i l.lines)) (drop l.i l.history) ≡ l.initial.out.items ++ rows_text l.schema l.width l.notes (map (λ s. s.now) l.lines) l.history
