use Rattle.dbtg_explore.proofs.GoingRound.{round_is_for_ever}
use Rattle.dbtg_explore.proofs.laws.a_round_goes_on_for_ever.Goals as goal

pub returns : goal.returns
returns c = round_is_for_ever
