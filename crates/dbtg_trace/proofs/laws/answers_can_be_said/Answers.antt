use Rattle.dbtg_trace.proofs.ReadBack.Sayable.{answers_can_be_said}
use Rattle.dbtg_trace.proofs.laws.answers_can_be_said.Goals as goal

pub returns : goal.returns
returns c schema sound named capacity small units history is = answers_can_be_said schema sound named capacity small units history is
