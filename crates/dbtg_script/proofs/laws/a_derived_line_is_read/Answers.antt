use Rattle.dbtg_script.proofs.Reading.NoFault.{derived_read}
use Rattle.dbtg_script.proofs.laws.a_derived_line_is_read.Goals as goal

pub returns : goal.returns
returns c = derived_read
