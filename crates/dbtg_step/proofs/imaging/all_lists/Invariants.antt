use Rattle.std.proofs.Common.{◌≡◌, map}
use Rattle.std.specs.List.{range_with_len}
use Rattle.dbtg_step.specs.Inside.Imaging.{found_in, lists_of}
use Rattle.dbtg_step.proofs.imaging.all_lists.Given as goal

abbrev pub invariant-loop-set : goal.invariant-loop-set
invariant-loop-set l = l.all.items ≡ map (lists_of l.schema (found_in l.schema l.capacity l.source)) (range_with_len 0 l.set)
