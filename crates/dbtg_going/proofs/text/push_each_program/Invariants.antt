use Rattle.std.proofs.Common.{◌≡◌, ◌+◌, ◌++◌, drop}
use Rattle.dbtg_going.specs.Texts.{programs_text}
use Rattle.dbtg_going.proofs.text.push_each_program.Given as goal

abbrev pub invariant-loop-i : goal.invariant-loop-i
invariant-loop-i l = l.out.items ++ programs_text (l.i + 1) (drop l.i l.programs) (drop l.i l.reached) ≡ l.initial.out.items ++ programs_text 1 l.programs l.reached
