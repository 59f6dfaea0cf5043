use Rattle.std.proofs.Common.{◌≡◌, ◌++◌, length, map}
use Rattle.std.specs.Prelude.{filter}
use Rattle.dbtg_script.specs.Lines.{is_statement, lines, statement_lines, trimmed}
use Rattle.dbtg_script.proofs.echo.statement_lines.Given as goal

abbrev pub invariant-loop-line : goal.invariant-loop-line
invariant-loop-line l = map (λ s. s.now) l.found.items ++ filter is_statement (map trimmed (lines l.left.rest.now)) ≡ statement_lines l.text

abbrev pub decreases-loop-line : goal.decreases-loop-line
decreases-loop-line l = length l.left.rest.now
