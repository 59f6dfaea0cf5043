use Rattle.dbtg_unit.proofs.Database.Legal.LegalUnits.{effect_keeps_legal}
use Rattle.dbtg_unit.proofs.legality.effect_keeps_legal.Goals as goal

pub returns : goal.returns
returns c = effect_keeps_legal
