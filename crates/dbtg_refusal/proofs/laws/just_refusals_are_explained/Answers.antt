use Rattle.dbtg_refusal.proofs.JustRefusals.{just_refusals}
use Rattle.dbtg_refusal.proofs.laws.just_refusals_are_explained.Goals as goal

pub returns : goal.returns
returns c = λ schema capacity units history sound is. just_refusals schema capacity units history sound is
