use Rattle.std.proofs.Common.{◌≡◌, ◌++◌, take}
use Rattle.std.specs.List.{flat_map}
use Rattle.dbtg_script.specs.Printing.Texts.{spaced_number}
use Rattle.dbtg_script.proofs.image.push_each_spaced_number.Given as goal

abbrev pub invariant-loop-number : goal.invariant-loop-number
invariant-loop-number l = l.out.items ≡ l.initial.out.items ++ flat_map spaced_number (take l.number-index l.numbers)
