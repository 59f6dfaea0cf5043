use Rattle.dbtg_program.proofs.Held.{only_a_value_does_not_fit}
use Rattle.dbtg_program.proofs.laws.only_a_value_does_not_fit.Goals as goal

pub returns : goal.returns
returns c = only_a_value_does_not_fit
