use Rattle.dbtg_unit.proofs.laws.doomed_is_least_set.Goals as goal
use Rattle.dbtg_unit.proofs.Database.Laws.LeastSets.{doomed_is_least_set}

pub returns : goal.returns
returns c schema capacity db option k = doomed_is_least_set schema capacity db option k
