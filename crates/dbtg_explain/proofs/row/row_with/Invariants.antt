use Rattle.std.proofs.Common.{◌≡◌, length}
use Rattle.dbtg_explain.specs.Explaining.{row_of}
use Rattle.dbtg_explain.proofs.row.row_with.Given as goal

-- no row already passed has the code
abbrev pub invariant-loop-row : goal.invariant-loop-row
invariant-loop-row l = row_of l.code l.rest ≡ row_of l.code l.table

abbrev pub decreases-loop-row : goal.decreases-loop-row
decreases-loop-row l = length l.rest
