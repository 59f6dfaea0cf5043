use Rattle.dbtg_shell.specs.Programs.{HasBegun}
use Rattle.dbtg_shell.proofs.ProgramSteps.{nothing_yet}
use Rattle.dbtg_session.proofs.Public.{on_err}
use Rattle.dbtg_shell.proofs.dialogue.run_accepted.Goals as goal

pub returns-in_err-lines-clause-part : goal.returns-in_err-lines-clause-part
returns-in_err-lines-clause-part c =
    let u = c.args.shell.now.turn in
    let old = c.args.shell.now.session in
    on_err c.from_residual.result (HasBegun u old c.args.text.now old) (nothing_yet u old c.args.text.now)

pub returns-in_err-followed-clause-part : goal.returns-in_err-followed-clause-part
returns-in_err-followed-clause-part c =
    let u = c.args.shell.now.turn in
    let old = c.args.shell.now.session in
    on_err c.from_residual-in_err-followed.result (HasBegun u old c.args.text.now old) (nothing_yet u old c.args.text.now)
