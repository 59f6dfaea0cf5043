use Rattle.dbtg_step.specs.Machine.Network.{network}
use Rattle.dbtg_step.proofs.EachEvent.Keeps.{run_keeps}
use Rattle.dbtg_step.proofs.Network.NetworkFacts.{network_is_sequential}
use Rattle.dbtg_step.proofs.Runs.Opening.{opening_is_lawful}
use Rattle.dbtg_step.proofs.laws.every_run_is_lawful.Goals as goal

pub returns : goal.returns
returns c schema capacity sound opening s moves first =
    let facts = network_is_sequential schema capacity sound in
    run_keeps (network schema capacity) facts opening s moves (opening_is_lawful (network schema capacity) facts opening s first)
