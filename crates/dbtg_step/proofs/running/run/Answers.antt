use Rattle.std.proofs.Common.{refl, subst}
use Rattle.std.proofs.lemmas.Result.{IfOk-weaker}
use Rattle.dbtg_step.specs.Core.Parts.{machine}
use Rattle.dbtg_step.specs.Core.Runs.{IsHandedOut}
use Rattle.dbtg_step.specs.Inside.Runs.{results_of_moves}
use Rattle.dbtg_step.proofs.TheCore.RunsShown.{run_handed}
use Rattle.dbtg_step.proofs.running.run.Goals as goal

pub returns : goal.returns
returns c =
    let core = c.in_ok-core.core in
    let last = c.make_each_move.new.core in
    let moves = c.args.moves.now in
    let made = c.in_ok-results.ensures in
    IfOk-weaker c.into_run.result _ _
    (λ given handed. run_handed c.args.schema.now c.args.capacity c.args.scripts moves core last (results_of_moves (machine core) moves) given c.requires.sound c.requires.fit c.in_ok-core.ensures made.core refl (subst (λ rs. IsHandedOut last rs given) made.results handed))
    c.into_run.ensures
