use Rattle.std.proofs.Common.{◌≡◌, ◌++◌, take}
use Rattle.dbtg_script.specs.Printing.Texts.{answers_text}
use Rattle.dbtg_script.proofs.texts.push_each_answer.Given as goal

abbrev pub invariant-loop-entry : goal.invariant-loop-entry
invariant-loop-entry l = l.out.items ≡ l.initial.out.items ++ answers_text l.schema (take l.entry-index l.history)
