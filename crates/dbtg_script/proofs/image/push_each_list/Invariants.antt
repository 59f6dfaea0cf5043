use Rattle.std.proofs.Common.{◌≡◌, ◌++◌, drop}
use Rattle.dbtg_script.specs.Printing.Texts.{lists_text}
use Rattle.dbtg_script.proofs.image.push_each_list.Given as goal

abbrev pub invariant-loop-i : goal.invariant-loop-i
invariant-loop-i l = l.out.items ++ lists_text l.schema (drop l.i l.lists) (drop l.i l.sets) ≡ l.initial.out.items ++ lists_text l.schema l.lists l.sets
