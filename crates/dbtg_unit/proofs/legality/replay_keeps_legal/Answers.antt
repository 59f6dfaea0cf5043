use Rattle.dbtg_unit.proofs.Database.Legal.LegalHistory.{replay_keeps_legal}
use Rattle.dbtg_unit.proofs.legality.replay_keeps_legal.Goals as goal

pub returns : goal.returns
returns c = replay_keeps_legal
