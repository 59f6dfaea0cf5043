use Rattle.std.proofs.Common.{◌≡◌, drop, map}
use Rattle.dbtg_script.specs.Printing.Echo.{widened}
use Rattle.dbtg_script.proofs.echo.column.Given as goal

abbrev pub invariant-loop-line : goal.invariant-loop-line
invariant-loop-line l = widened l.width (map (λ s. s.now) (drop l.line-index l.lines)) ≡ widened 0 (map (λ s. s.now) l.lines)
