use Rattle.dbtg_step.proofs.MadeWhole.Audits.{decided}
use Rattle.dbtg_step.proofs.auditing.takes.Goals as goal

pub returns : goal.returns
returns c = decided c.args.database.now c.answer.new.self c.args.entry.now c.in_ok-answer.answer c.in_ok-answer.ensures.made c.requires.may.ticket c.same_answer.result c.same_answer.ensures
