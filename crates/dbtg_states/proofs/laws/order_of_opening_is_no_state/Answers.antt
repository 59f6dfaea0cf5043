use Rattle.dbtg_states.proofs.States.Alike.{go_on_alike}
use Rattle.dbtg_states.proofs.laws.order_of_opening_is_no_state.Goals as goal

pub returns : goal.returns
returns c = go_on_alike
