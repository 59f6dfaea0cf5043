use Rattle.std.proofs.Common.{length}
use Rattle.dbtg_program.proofs.stopping.+stop_from.Given as goal

abbrev pub decreases-stop_from : goal.decreases-stop_from
decreases-stop_from l = length l.places.now
