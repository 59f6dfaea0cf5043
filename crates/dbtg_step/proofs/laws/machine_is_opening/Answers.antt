use Rattle.std.proofs.Common.{length}
use Rattle.dbtg_unit.proofs.Public.{opening_is_legal}
use Rattle.dbtg_step.proofs.Runs.Headlines as headlines
use Rattle.dbtg_step.proofs.laws.machine_is_opening.Goals as goal

pub returns : goal.returns
returns c schema capacity scripts fit = headlines.machine_is_opening schema capacity scripts (opening_is_legal schema capacity (length scripts)) fit
