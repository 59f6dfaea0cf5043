use Rattle.std.proofs.Common.{◌≡◌, ◌≤◌, length, take}
use Rattle.dbtg_states.specs.Parts.{up_to_used}
use Rattle.dbtg_states.proofs.contents.count_used.Given as goal

abbrev pub decreases-loop-count : goal.decreases-loop-count
decreases-loop-count l = l.count

abbrev pub invariant-loop-count : goal.invariant-loop-count
invariant-loop-count l = record {
  within : l.count ≤ length l.extent.numbers;
  used : up_to_used (take l.count l.extent.numbers) ≡ up_to_used l.extent.numbers;
}
