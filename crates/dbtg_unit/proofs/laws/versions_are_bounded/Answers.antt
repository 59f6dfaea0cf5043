use Rattle.dbtg_unit.proofs.laws.versions_are_bounded.Goals as goal
use Rattle.dbtg_unit.proofs.Database.Laws.OneMoreEntry.{versions_are_bounded}

pub returns : goal.returns
returns c schema capacity units history = versions_are_bounded schema capacity units history
