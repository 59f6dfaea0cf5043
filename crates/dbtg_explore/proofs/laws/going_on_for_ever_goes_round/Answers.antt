use Rattle.dbtg_explore.proofs.GoingRound.{for_ever_is_round}
use Rattle.dbtg_explore.proofs.laws.going_on_for_ever_goes_round.Goals as goal

pub returns : goal.returns
returns c = for_ever_is_round
