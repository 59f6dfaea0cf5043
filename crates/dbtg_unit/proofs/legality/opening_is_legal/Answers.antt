use Rattle.dbtg_unit.proofs.Database.Legal.LegalHistory.{opening_is_legal}
use Rattle.dbtg_unit.proofs.legality.opening_is_legal.Goals as goal

pub returns : goal.returns
returns c = opening_is_legal
