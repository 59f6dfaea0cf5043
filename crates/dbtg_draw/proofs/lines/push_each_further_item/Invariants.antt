use Rattle.std.proofs.Common.{◌≡◌, ◌++◌, take}
use Rattle.std.specs.List.{flat_map}
use Rattle.dbtg_draw.specs.Lines.{further_item}
use Rattle.dbtg_draw.proofs.lines.push_each_further_item.Given as goal

abbrev pub invariant-loop-number : goal.invariant-loop-number
invariant-loop-number l = l.out.items ≡ l.initial.out.items ++ flat_map (further_item l.items) (take l.number-index l.numbers)
