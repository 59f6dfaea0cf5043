use Rattle.dbtg_unit.proofs.laws.replay_goes_forward.Goals as goal
use Rattle.dbtg_unit.proofs.Database.Laws.OneMoreEntry.{replay_goes_forward}

pub returns : goal.returns
returns c schema capacity state entries = replay_goes_forward schema capacity state entries
