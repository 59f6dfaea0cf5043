use Rattle.std.proofs.Common.{◌≡◌, ◌+◌, ◌++◌, drop}
use Rattle.dbtg_running.specs.Checking.{program_lines}
use Rattle.dbtg_running.proofs.check.push_each_program_line.Given as goal

abbrev pub invariant-loop-i : goal.invariant-loop-i
invariant-loop-i l = l.out.items ++ program_lines (l.i + 1) (drop l.i l.programs) ≡ l.initial.out.items ++ program_lines 1 l.programs
