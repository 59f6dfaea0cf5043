use Rattle.dbtg_step.specs.Machine.Network.{network}
use Rattle.dbtg_step.proofs.EachEvent.EventCounts.{events_are_counted}
use Rattle.dbtg_step.proofs.Network.NetworkNeeds.{network_names_cells}
use Rattle.dbtg_step.proofs.laws.statements_have_their_events.Goals as goal

pub returns : goal.returns
returns c schema capacity opening s u = events_are_counted (network schema capacity) (network_names_cells schema capacity) opening u s
