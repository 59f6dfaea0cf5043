use Rattle.std.proofs.Common.{length}
use Rattle.dbtg_unit.proofs.Public.{opening_is_legal}
use Rattle.dbtg_step.proofs.Runs.Headlines.{run_is_sequential}
use Rattle.dbtg_step.proofs.Network.NetworkFacts.{network_is_sequential}
use Rattle.dbtg_step.proofs.laws.every_run_is_sequential.Goals as goal

pub returns : goal.returns
returns c schema capacity sound scripts moves fit =
    run_is_sequential schema capacity scripts (opening_is_legal schema capacity (length scripts)) fit (network_is_sequential schema capacity sound) moves
