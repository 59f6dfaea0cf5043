use Rattle.std.proofs.Common.{◌+◌, ◌*◌, vec_len}
use Rattle.dbtg_threading.proofs.abreast.+fn-run_abreast-join+arg3+run_abreast.Given as goal

abbrev pub decreases-join+arg3 : goal.decreases-join+arg3
decreases-join+arg3 g l = 2 * vec_len l.units + 1

abbrev pub decreases-run_abreast : goal.decreases-run_abreast
decreases-run_abreast g l = 2 * vec_len l.units
