use Rattle.dbtg_step.specs.Machine.Network.{network}
use Rattle.dbtg_step.proofs.Runs.Histories.{run_extends}
use Rattle.dbtg_step.proofs.laws.every_run_extends_history.Goals as goal

pub returns : goal.returns
returns c schema capacity opening s moves = run_extends (network schema capacity) opening s moves
