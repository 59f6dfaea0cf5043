use Rattle.std.proofs.Common.{refl}
use Rattle.dbtg_exploring.proofs.command.judged.Goals as goal

pub returns-in-Err-States-clause-refused : goal.returns-in-Err-States-clause-refused
returns-in-Err-States-clause-refused g c = (refl, c.in-Err-States.ensures.so_far c.in-Err-States.field-0-is)
