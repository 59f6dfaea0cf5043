use Rattle.dbtg_unit.proofs.laws.each_statement_goes_forward.Goals as goal
use Rattle.dbtg_unit.proofs.Database.Laws.GoForward.{each_goes_forward}

pub returns : goal.returns
returns c schema capacity db unit statement = each_goes_forward schema capacity db unit statement
