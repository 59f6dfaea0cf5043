use Rattle.dbtg_step.specs.Machine.Network.{network}
use Rattle.dbtg_cells.specs.Names.{name_below}
use Rattle.dbtg_step.proofs.Runs.EveryRun.{every_run_never_stuck}
use Rattle.dbtg_step.proofs.Network.NameOrder.{names_are_ordered}
use Rattle.dbtg_step.proofs.Network.NetworkFacts.{needs_in_order, network_is_sequential}
use Rattle.dbtg_step.proofs.laws.no_run_is_stuck.Goals as goal

pub returns : goal.returns
returns c schema capacity sound opening s moves first u state w at is =
    every_run_never_stuck (network schema capacity) (network_is_sequential schema capacity sound) opening name_below names_are_ordered (needs_in_order schema capacity sound) s moves first u state w at is
