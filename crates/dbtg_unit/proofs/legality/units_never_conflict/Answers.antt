use Rattle.dbtg_unit.proofs.Database.Legal.LegalUnits.{units_never_conflict}
use Rattle.dbtg_unit.proofs.legality.units_never_conflict.Goals as goal

pub returns : goal.returns
returns c = units_never_conflict
