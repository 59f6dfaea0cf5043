use Rattle.dbtg_explore.proofs.Continuing.{essence_is_all}
use Rattle.dbtg_explore.proofs.laws.what_counts_is_all.Goals as goal

pub returns : goal.returns
returns c = essence_is_all
