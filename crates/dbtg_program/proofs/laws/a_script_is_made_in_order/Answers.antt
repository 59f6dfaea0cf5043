use Rattle.dbtg_program.proofs.Scripted.{in_order}
use Rattle.dbtg_program.proofs.laws.a_script_is_made_in_order.Goals as goal

pub returns : goal.returns
returns c = in_order
