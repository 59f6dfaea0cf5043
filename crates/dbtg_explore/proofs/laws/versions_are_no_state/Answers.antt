use Rattle.dbtg_explore.proofs.Versions.Same.{versions_are_no_state}
use Rattle.dbtg_explore.proofs.laws.versions_are_no_state.Goals as goal

pub returns : goal.returns
returns c = versions_are_no_state
