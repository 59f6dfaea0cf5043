use Rattle.dbtg_erase.proofs.laws.delete_is_determined.Goals as goal
use Rattle.dbtg_erase.proofs.DeleteDetermined.{delete_is_determined}

pub returns : goal.returns
returns c = delete_is_determined
