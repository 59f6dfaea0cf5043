use Rattle.std.proofs.Common.{ℕ, IfOk, inl, inr, refl, subst, sym}
use Rattle.dbtg_session.proofs.ShellReplies.{if_ok, without_unit}
use Rattle.dbtg_session.specs.Sessions.{NotesLine, TakesLine}
use Rattle.dbtg_session.proofs.commands.Shell.make_for.Goals as goal

pub returns-in-Some-clause-taken : goal.returns-in-Some-clause-taken
returns-in-Some-clause-taken c =
    subst (λ (u : ℕ). TakesLine u c.args.self.now.session c.args.line.now c.make_line.result c.make_line.new.self.session) c.in-Some.ensures.named c.make_line.ensures.taken

pub returns-in-None-clause-taken : goal.returns-in-None-clause-taken
returns-in-None-clause-taken c = without_unit c.args.unit c.args.self.now.session c.args.self.now.session c.args.line.now c.no_unit.result refl (sym c.in-None.ensures.found) c.no_unit.ensures

pub returns-in-Some-clause-noted : goal.returns-in-Some-clause-noted
returns-in-Some-clause-noted c =
    let old = c.args.self.now in let new = c.make_line.new.self in
    subst (λ (u : ℕ). IfOk c.make_line.result (λ told. NotesLine u old.session old.fault c.args.line.now new.session new.fault)) c.in-Some.ensures.named c.make_line.ensures.noted

pub returns-in-None-clause-noted : goal.returns-in-None-clause-noted
returns-in-None-clause-noted c =
    let old = c.args.self.now in
    if_ok c.no_unit.result (NotesLine c.args.unit old.session old.fault c.args.line.now old.session old.fault) (inr (inl (inl (sym c.in-None.ensures.found), refl)))
