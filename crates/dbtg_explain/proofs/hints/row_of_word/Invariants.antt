use Rattle.std.proofs.Common.{◌≡◌, length}
use Rattle.dbtg_explain.specs.Hints.{row_of_word}
use Rattle.dbtg_explain.proofs.hints.row_of_word.Given as goal

-- no row already passed has the word
abbrev pub invariant-loop-row : goal.invariant-loop-row
invariant-loop-row l = row_of_word l.word l.rest ≡ row_of_word l.word l.table

abbrev pub decreases-loop-row : goal.decreases-loop-row
decreases-loop-row l = length l.rest
