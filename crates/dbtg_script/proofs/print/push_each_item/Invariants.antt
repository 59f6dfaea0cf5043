use Rattle.std.proofs.Common.{◌≡◌, ◌≤◌, ◌++◌, drop, vec_capacity}
use Rattle.dbtg_script.specs.Printing.Texts.{items_text}
use Rattle.dbtg_script.proofs.print.push_each_item.Given as goal

abbrev pub invariant-loop-i : goal.invariant-loop-i
invariant-loop-i l =
    (l.out.items ++ items_text (drop l.i l.values) (drop l.i l.items) ≡ l.initial.out.items ++ items_text l.values l.items) × (vec_capacity l.initial.out ≤ vec_capacity l.out)
