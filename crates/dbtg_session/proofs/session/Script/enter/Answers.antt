use Rattle.std.proofs.lemmas.Result.{err_from_is_err_and}
use Rattle.dbtg_session.specs.Inside.Sessions.{IsAsBefore}
use Rattle.dbtg_session.proofs.session.Script.enter.Goals as goal

pub returns-clause-entered : goal.returns-clause-entered
returns-clause-entered c = record { text = c.in_ok-push_line.ensures.taken; begins = c.in_ok-push_line.ensures.begun }

pub returns-in_err-push_line-clause-as_before : goal.returns-in_err-push_line-clause-as_before
returns-in_err-push_line-clause-as_before c =
    let same : IsAsBefore c.args.self.now c.push_line.new.self = record { text = c.in_err-push_line.ensures.text; begins = c.in_err-push_line.ensures.begins } in
    let p = err_from_is_err_and c.from_residual.result c.from_residual.ensures.1 in
    rw p.1 same
