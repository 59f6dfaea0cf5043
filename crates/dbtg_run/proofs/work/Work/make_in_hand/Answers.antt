use Rattle.std.proofs.Common.{refl}
use Rattle.dbtg_run.proofs.work.Work.make_in_hand.Goals as goal

pub commit-requires-clause-picked : goal.commit-requires-clause-picked
commit-requires-clause-picked g c = (refl, refl, refl, refl)
