use Rattle.std.proofs.Common.{◌≡◌, ◌++◌, take}
use Rattle.std.specs.List.{flat_map}
use Rattle.dbtg_timeline.specs.Waiting.{next_holder}
use Rattle.dbtg_timeline.proofs.waiting.push_each_next_holder.Given as goal

abbrev pub invariant-loop-number : goal.invariant-loop-number
invariant-loop-number l = l.out.items ≡ l.initial.out.items ++ flat_map next_holder (take l.number-index l.numbers)
