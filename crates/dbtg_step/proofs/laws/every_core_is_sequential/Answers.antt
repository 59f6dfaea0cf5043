use Rattle.dbtg_step.proofs.TheCore.CoreShown.{core_sequential}
use Rattle.dbtg_step.proofs.laws.every_core_is_sequential.Goals as goal

pub returns : goal.returns
returns c = core_sequential
