use Rattle.dbtg_unit.proofs.laws.replay_takes_one_more.Goals as goal
use Rattle.dbtg_unit.proofs.Database.Laws.OneMoreEntry.{replays_one_more}

pub returns : goal.returns
returns c schema capacity state history entry = replays_one_more schema capacity state history entry
