use Rattle.dbtg_unit.proofs.laws.statements_determine_replay.Goals as goal
use Rattle.dbtg_unit.proofs.Database.Laws.OneMoreEntry.{statements_determine}

pub returns : goal.returns
returns c schema capacity state history = statements_determine schema capacity state history
