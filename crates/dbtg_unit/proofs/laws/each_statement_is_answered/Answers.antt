use Rattle.dbtg_unit.proofs.laws.each_statement_is_answered.Goals as goal
use Rattle.dbtg_unit.proofs.Database.Laws.Answered.{each_is_answered}

pub returns : goal.returns
returns c schema capacity db unit statement = each_is_answered schema capacity db unit statement
