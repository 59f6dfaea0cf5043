use Rattle.std.proofs.Common.{length}
use Rattle.dbtg_script.proofs.statement.+set_bits.Given as goal

abbrev pub decreases-set_bits : goal.decreases-set_bits
decreases-set_bits l = length l.sets.now
