use Rattle.std.proofs.Common.{◌≡◌, map}
use Rattle.std.specs.List.{range_with_len}
use Rattle.dbtg_explore.specs.Counted.{reads}
use Rattle.dbtg_explore.proofs.reads.items_read.Given as goal

abbrev pub invariant-loop-item : goal.invariant-loop-item
invariant-loop-item l = l.read.items ≡ map (reads l.program) (range_with_len 0 l.item)
