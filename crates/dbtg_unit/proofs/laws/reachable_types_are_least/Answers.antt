use Rattle.dbtg_unit.proofs.laws.reachable_types_are_least.Goals as goal
use Rattle.dbtg_unit.proofs.Database.Laws.LeastSets.{reachable_is_least}

pub returns : goal.returns
returns c schema t = reachable_is_least schema t
