use Rattle.dbtg_step.proofs.TheCore.CoursesMatch.{no_course}
use Rattle.dbtg_step.proofs.whole.need_once.Goals as goal

pub next_need-requires-clause-kept : goal.next_need-requires-clause-kept
next_need-requires-clause-kept c = no_course c.args.schema.now c.args.capacity c.args.held.now c.args.unit.now c.args.statement.now
