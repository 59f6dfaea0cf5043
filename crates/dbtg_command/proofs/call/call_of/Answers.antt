use Rattle.dbtg_command.proofs.Calls.{called}
use Rattle.dbtg_command.proofs.call.call_of.Goals as goal

pub returns : goal.returns
returns c = called _ _ c.in-Ok.matches c.call_in-call.result c.in_ok-command.ensures c.in-Ok.ensures.matches c.call_in-call.ensures
