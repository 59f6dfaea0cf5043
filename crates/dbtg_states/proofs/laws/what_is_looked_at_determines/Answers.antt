use Rattle.dbtg_states.proofs.States.Looked.{looked_at_determines}
use Rattle.dbtg_states.proofs.laws.what_is_looked_at_determines.Goals as goal

pub returns : goal.returns
returns c = looked_at_determines c.each_statement_is_determined.ensures c.delete_is_determined.ensures
