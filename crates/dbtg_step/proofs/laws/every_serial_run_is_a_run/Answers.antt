use Rattle.dbtg_step.proofs.MadeWhole.SerialLaw.{comes_to}
use Rattle.dbtg_step.proofs.laws.every_serial_run_is_a_run.Goals as goal

pub returns : goal.returns
returns c schema capacity sound scripts fit = comes_to schema capacity sound scripts fit
