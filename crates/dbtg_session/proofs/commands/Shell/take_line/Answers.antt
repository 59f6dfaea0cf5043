use Rattle.std.proofs.Common.{◌≡◌}
use Rattle.dbtg_session.proofs.ShellReplies.{answered, if_ok, on_err, on_err_both}
use Rattle.dbtg_session.proofs.commands.Shell.take_line.Goals as goal

pub returns-in-Command : goal.returns-in-Command
returns-in-Command c =
    let old = c.args.self.now in let new = c.carry_out.new.self in let done = c.carry_out.ensures in
    answered c.args.line.now old.turn new.turn old.fault new.fault old.session new.session c.carry_out.result c.read_asked.result _ c.read_asked.ensures c.in-Command.is (done.done, done.shown) done.turn done.noted done.kept

pub returns-in-Statement : goal.returns-in-Statement
returns-in-Statement c =
    let old = c.args.self.now in let new = c.make_for.new.self in let taken = c.make_for.ensures in
    answered c.args.line.now old.turn new.turn old.fault new.fault old.session new.session c.make_for.result c.read_asked.result _ c.read_asked.ensures c.in-Statement.is taken.taken
    (if_ok c.make_for.result (new.turn ≡ old.turn) taken.turn) taken.noted (on_err_both c.make_for.result (new.turn ≡ old.turn) (new.fault ≡ old.fault) (on_err c.make_for.result (new.turn ≡ old.turn) taken.turn) taken.kept)

pub returns-in-StatementOf : goal.returns-in-StatementOf
returns-in-StatementOf c =
    let old = c.args.self.now in let made = c.make_for-in-StatementOf in let new = made.new.self in let taken = made.ensures in
    answered c.args.line.now old.turn new.turn old.fault new.fault old.session new.session made.result c.read_asked.result _ c.read_asked.ensures c.in-StatementOf.is taken.taken
    (if_ok made.result (new.turn ≡ old.turn) taken.turn) taken.noted (on_err_both made.result (new.turn ≡ old.turn) (new.fault ≡ old.fault) (on_err made.result (new.turn ≡ old.turn) taken.turn) taken.kept)
