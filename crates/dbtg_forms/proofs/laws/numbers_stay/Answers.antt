use Rattle.dbtg_forms.proofs.Numbering.{numbers_remain}
use Rattle.dbtg_forms.proofs.laws.numbers_stay.Goals as goal

pub returns : goal.returns
returns c = numbers_remain
