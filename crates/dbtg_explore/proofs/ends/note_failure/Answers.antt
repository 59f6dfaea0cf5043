use Rattle.std.proofs.lemmas.Result.{on_ok_weaker}
use Rattle.dbtg_explore.specs.Inside.Standing.{fails_in}
use Rattle.dbtg_explore.proofs.Noting.{takes_nothing, takes_one}
use Rattle.dbtg_explore.proofs.ends.note_failure.Goals as goal

pub returns-in-Some : goal.returns-in-Some
returns-in-Some c =
    on_ok_weaker c.enter_failure.result
    (takes_one c.args.unit c.in-Some.how (fails_in c.args.numbers.now c.args.state c.args.unit) c.args.failures.now.items c.enter_failure.new.failures.items c.in-Some.ensures) c.enter_failure.ensures

pub returns-in-None : goal.returns-in-None
returns-in-None c = takes_nothing c.args.unit (fails_in c.args.numbers.now c.args.state c.args.unit) c.args.failures.now.items c.in-None.ensures
