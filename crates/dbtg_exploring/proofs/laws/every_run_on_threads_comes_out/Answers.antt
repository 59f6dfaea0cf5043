use Rattle.dbtg_exploring.proofs.OnThreads.{every_run_on_threads}
use Rattle.dbtg_exploring.proofs.laws.every_run_on_threads_comes_out.Goals as goal

pub returns : goal.returns
returns c = every_run_on_threads
