use Rattle.std.proofs.Common.{sym}
use Rattle.dbtg_step.proofs.TheCore.NewestFirst.{newest_between, newest_by_hands}
use Rattle.dbtg_step.proofs.watching.newest_of.Goals as goal

pub returns-in-None : goal.returns-in-None
returns-in-None c = λ schema capacity. sym (newest_between schema capacity c.args.runner.now c.in-None.is)

pub returns-in-Some : goal.returns-in-Some
returns-in-Some c = λ schema capacity. newest_by_hands schema capacity c.args.runner.now c.in-Some.field-0 c.in-Some.is c.last_area.result c.last_name.result c.last_area.ensures c.last_name.ensures
