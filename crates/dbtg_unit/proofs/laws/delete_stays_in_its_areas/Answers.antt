use Rattle.dbtg_unit.proofs.laws.delete_stays_in_its_areas.Goals as goal
use Rattle.dbtg_unit.proofs.Database.Laws.LeastSets.{delete_stays}

pub returns : goal.returns
returns c schema capacity db option k d legal live h = delete_stays schema capacity db legal option k live d h
