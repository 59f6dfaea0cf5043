use Rattle.std.proofs.Common.{◌≡◌, take, map}
use Rattle.dbtg_script.specs.Lines.{statement_lines}
use Rattle.dbtg.proofs.timeline.texts_of_statements.Given as goal

abbrev pub invariant-loop-text : goal.invariant-loop-text
invariant-loop-text l = l.scripts.items ≡ map statement_lines (take l.text-index l.texts)
