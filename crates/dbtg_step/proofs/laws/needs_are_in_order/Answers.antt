use Rattle.dbtg_step.proofs.Network.NetworkFacts as facts
use Rattle.dbtg_step.proofs.laws.needs_are_in_order.Goals as goal

pub returns : goal.returns
returns c schema capacity sound = facts.needs_are_in_order schema capacity sound
