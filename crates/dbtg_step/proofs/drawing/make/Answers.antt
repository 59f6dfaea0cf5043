use Rattle.std.proofs.lemmas.Result.{IfOk-weaker}
use Rattle.dbtg_step.proofs.drawing.make.Goals as goal

pub returns-then-is_made_at_once-clause-made : goal.returns-then-is_made_at_once-clause-made
returns-then-is_made_at_once-clause-made c = IfOk-weaker c.make_at_once.result _ _ (λ answer made db agrees. made c.requires.once db agrees) c.make_at_once.ensures.made

pub returns-else-is_made_at_once-clause-made : goal.returns-else-is_made_at_once-clause-made
returns-else-is_made_at_once-clause-made c = IfOk-weaker c.make_by_plan.result _ _ (λ answer made db agrees. made c.requires.once db agrees) c.make_by_plan.ensures.made
