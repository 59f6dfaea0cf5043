use Rattle.std.proofs.Common.{◌≡◌, take, map}
use Rattle.dbtg_script.specs.Lines.{statement_lines}
use Rattle.dbtg_script.proofs.echo.lines_of_scripts.Given as goal

abbrev pub invariant-loop-text : goal.invariant-loop-text
invariant-loop-text l = map (map (λ s. s.now)) l.scripts.items ≡ map statement_lines (take l.text-index l.texts)
