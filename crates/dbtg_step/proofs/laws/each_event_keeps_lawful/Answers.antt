use Rattle.dbtg_step.specs.Machine.Network.{network}
use Rattle.dbtg_step.proofs.EachEvent.Keeps.{event_keeps}
use Rattle.dbtg_step.proofs.Network.NetworkFacts.{network_is_sequential}
use Rattle.dbtg_step.proofs.laws.each_event_keeps_lawful.Goals as goal

pub returns : goal.returns
returns c schema capacity sound opening s t m lawful moves = event_keeps (network schema capacity) (network_is_sequential schema capacity sound) opening s t m lawful moves
