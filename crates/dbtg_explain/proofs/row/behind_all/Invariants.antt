use Rattle.std.proofs.Common.{◌≡◌}
use Rattle.dbtg_explain.specs.FaultyWord.{behind_all}
use Rattle.dbtg_explain.proofs.row.behind_all.Given as goal

abbrev pub invariant-loop-i : goal.invariant-loop-i
invariant-loop-i l = l.rest ≡ behind_all l.c l.i l.text
