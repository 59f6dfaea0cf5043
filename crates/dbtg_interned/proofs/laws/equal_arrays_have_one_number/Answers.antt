use Rattle.dbtg_interned.proofs.Public.{equal_are_one}
use Rattle.dbtg_interned.proofs.laws.equal_arrays_have_one_number.Goals as goal

pub returns : goal.returns
returns c = equal_are_one
