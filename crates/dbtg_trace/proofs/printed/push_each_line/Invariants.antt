use Rattle.std.proofs.Common.{◌≡◌, ◌++◌, drop, map}
use Rattle.dbtg_trace.specs.Printing.{trace_lines}
use Rattle.dbtg_trace.proofs.printed.push_each_line.Given as goal

abbrev pub invariant-loop-i : goal.invariant-loop-i
invariant-loop-i l = l.out.items ++ trace_lines l.schema (map (λ s. s.now) (drop l.i l.statements)) (drop l.i l.history) ≡ l.initial.out.items ++ trace_lines l.schema (map (λ s. s.now) l.statements) l.history
