use Rattle.std.proofs.Common.{length}
use Rattle.dbtg_program.proofs.borrowed.+text_below.Given as goal

abbrev pub decreases-text_below : goal.decreases-text_below
decreases-text_below l = length l.a.now
