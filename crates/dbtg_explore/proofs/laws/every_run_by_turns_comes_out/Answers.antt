use Rattle.dbtg_explore.proofs.ByTurns.{every_run_by_turns}
use Rattle.dbtg_explore.proofs.laws.every_run_by_turns_comes_out.Goals as goal

pub returns : goal.returns
returns c = every_run_by_turns
