use Rattle.dbtg_unit.proofs.Hands.Changes.EveryEdit.{every_effect_is_its_edits}
use Rattle.dbtg_unit.proofs.laws.effect_is_its_edits.Goals as goal

pub returns : goal.returns
returns c = every_effect_is_its_edits
