use Rattle.std.proofs.lemmas.Result.{IfErr-weaker}
use Rattle.dbtg_explore.proofs.wishes.broken_turns.Goals as goal

pub returns-clause-stopped : goal.returns-clause-stopped
returns-clause-stopped g c = IfErr-weaker c.first_broken.result _ _ (λ stop holds is. (holds is).more) c.first_broken.ensures.stopped
