use Rattle.dbtg_interned.proofs.Public.{stays_array, stays_elements}
use Rattle.dbtg_interned.proofs.laws.older_arrays_stay.Goals as goal

pub returns : goal.returns
returns c = λ old new a g h. (stays_array old new a g h, stays_elements old new a g h)
