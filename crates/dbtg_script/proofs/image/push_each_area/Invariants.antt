use Rattle.std.proofs.Common.{◌≡◌, ◌++◌, drop}
use Rattle.dbtg_script.specs.Printing.Texts.{areas_text}
use Rattle.dbtg_script.proofs.image.push_each_area.Given as goal

abbrev pub invariant-loop-i : goal.invariant-loop-i
invariant-loop-i l = l.out.items ++ areas_text (drop l.i l.usage) (drop l.i l.areas) ≡ l.initial.out.items ++ areas_text l.usage l.areas
