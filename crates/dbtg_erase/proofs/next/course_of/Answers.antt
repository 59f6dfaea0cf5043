use Rattle.std.proofs.lemmas.Result.{IfOk-weaker}
use Rattle.dbtg_erase.proofs.next.course_of.Goals as goal

pub returns-in-None-clause-course : goal.returns-in-None-clause-course
returns-in-None-clause-course c = IfOk-weaker c.begin.result _ _ (λ going has schema capacity hands option kept. has schema capacity hands option) c.begin.ensures
