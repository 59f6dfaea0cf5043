use Rattle.std.proofs.Common.{◌≡◌, ◌++◌, take}
use Rattle.std.specs.List.{flat_map}
use Rattle.dbtg_script.specs.Printing.Texts.{current_text}
use Rattle.dbtg_script.proofs.print.push_each_current.Given as goal

abbrev pub invariant-loop-current : goal.invariant-loop-current
invariant-loop-current l = l.out.items ≡ l.initial.out.items ++ flat_map (current_text l.schema) (take l.current-index l.currents)
