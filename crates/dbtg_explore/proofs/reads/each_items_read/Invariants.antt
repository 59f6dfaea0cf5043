use Rattle.std.proofs.Common.{◌≡◌, map, take}
use Rattle.dbtg_explore.specs.Inside.Keys.{items_read}
use Rattle.dbtg_explore.proofs.reads.each_items_read.Given as goal

abbrev pub invariant-loop-program : goal.invariant-loop-program
invariant-loop-program l = l.reads.items ≡ map items_read (take l.program-index l.programs)
