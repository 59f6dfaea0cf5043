use Rattle.dbtg_explore.proofs.ComesOut.{every_run}
use Rattle.dbtg_explore.proofs.laws.every_run_comes_out.Goals as goal

pub returns : goal.returns
returns c = every_run
