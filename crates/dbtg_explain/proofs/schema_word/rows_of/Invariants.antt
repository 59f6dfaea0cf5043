use Rattle.std.proofs.Common.{◌≡◌, ◌++◌, length, map}
use Rattle.dbtg_script.specs.Lines.{lines}
use Rattle.dbtg_explain.proofs.schema_word.rows_of.Given as goal

abbrev pub invariant-loop-row : goal.invariant-loop-row
invariant-loop-row l = map (λ row. row.now) l.rows.items ++ lines l.rest ≡ lines l.text

abbrev pub decreases-loop-row : goal.decreases-loop-row
decreases-loop-row l = length l.rest
