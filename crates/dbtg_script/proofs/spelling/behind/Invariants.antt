use Rattle.std.proofs.Common.{◌≡◌, drop}
use Rattle.dbtg_script.specs.Printing.Spelling.{behind}
use Rattle.dbtg_script.proofs.spelling.behind.Given as goal

abbrev pub invariant-loop-i : goal.invariant-loop-i
invariant-loop-i l = behind l.c (drop l.i l.text) ≡ behind l.c l.text
