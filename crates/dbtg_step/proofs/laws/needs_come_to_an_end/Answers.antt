use Rattle.dbtg_step.proofs.Network.TurnsBack as turns
use Rattle.dbtg_step.proofs.laws.needs_come_to_an_end.Goals as goal

pub returns : goal.returns
returns c schema capacity = turns.needs_come_to_an_end schema capacity
