use Rattle.dbtg_forms.proofs.Numbering.{numbers_tell}
use Rattle.dbtg_forms.proofs.laws.isomorphic_graphs_have_one_number.Goals as goal

pub returns : goal.returns
returns c = numbers_tell
