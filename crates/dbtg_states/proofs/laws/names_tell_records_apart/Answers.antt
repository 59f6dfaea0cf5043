use Rattle.dbtg_states.proofs.Naming.{names_apart}
use Rattle.dbtg_states.proofs.laws.names_tell_records_apart.Goals as goal

pub returns : goal.returns
returns c = names_apart
