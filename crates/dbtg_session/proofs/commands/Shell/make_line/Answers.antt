use Rattle.std.proofs.Common.{◌∙◌, Bool, IfOk, inl, inr, refl, sym, subst}
use Rattle.std.proofs.lemmas.Result.{IfOk-weaker}
use Rattle.dbtg_session.proofs.ShellReplies.{with_fault}
use Rattle.dbtg_session.specs.Replies.{IsFaultText}
use Rattle.dbtg_session.specs.Sessions.{HasTyped, IsAnswered, IsText, Takes, Typed}
use Rattle.dbtg_session.proofs.commands.Shell.make_line.Goals as goal

pub returns-in-Ok-false-clause-taken : goal.returns-in-Ok-false-clause-taken
returns-in-Ok-false-clause-taken c =
    let taken = subst (λ (made : Bool). Takes c.args.self.now.session c.args.unit c.args.line.now made c.make_line.new.self) c.in-Ok-false.field-0-test c.in-Ok-false.ensures.taken in
    inr (taken.0, inr (inl (taken.1, c.in_ok-room.ensures.items)))

pub returns-in-Ok-true-clause-taken : goal.returns-in-Ok-true-clause-taken
returns-in-Ok-true-clause-taken c =
    let old = c.args.self.now.session in
    let taken = subst (λ (made : Bool). Takes old c.args.unit c.args.line.now made c.make_line.new.self) c.in-Ok-true.field-0-test c.in-Ok-true.ensures.taken in
    inl (
      subst (HasTyped old c.args.unit c.args.line.now) (sym c.tell_last.ensures.unchanged) taken,
      subst (λ (t : Typed). IsText (IsAnswered t) c.tell_last.result) (sym c.tell_last.ensures.unchanged) c.tell_last.ensures.told,
    )

pub returns-in-Err-Fault-clause-taken : goal.returns-in-Err-Fault-clause-taken
returns-in-Err-Fault-clause-taken c =
    let old = c.args.self.now.session in
    let refused = rw c.in-Err-Fault.field-0-is at c.in-Err-Fault.ensures.refused in
    let told = subst (λ (t : Typed). IfOk c.tell_fault.result (IsText (IsFaultText t.making.schema c.args.line.now c.in-Err-Fault.cause))) c.in-Err-Fault.ensures.unchanged c.tell_fault.ensures.told in
    with_fault c.args.unit old c.tell_fault.new.self.session c.args.line.now c.tell_fault.result (c.tell_fault.ensures.unchanged ∙ c.in-Err-Fault.ensures.unchanged) c.in-Err-Fault.cause refused told

pub returns-in-Ok-false-clause-noted : goal.returns-in-Ok-false-clause-noted
returns-in-Ok-false-clause-noted c =
    let taken = subst (λ (made : Bool). Takes c.args.self.now.session c.args.unit c.args.line.now made c.make_line.new.self) c.in-Ok-false.field-0-test c.in-Ok-false.ensures.taken in
    inr (inl (inr taken.1, refl))

pub returns-in-Ok-true-clause-noted : goal.returns-in-Ok-true-clause-noted
returns-in-Ok-true-clause-noted c =
    let taken = subst (λ (made : Bool). Takes c.args.self.now.session c.args.unit c.args.line.now made c.make_line.new.self) c.in-Ok-true.field-0-test c.in-Ok-true.ensures.taken in
    inl (subst (HasTyped c.args.self.now.session c.args.unit c.args.line.now) (sym c.tell_last.ensures.unchanged) taken, c.tell_last.ensures.fault)

pub returns-in-Err-Fault-clause-noted : goal.returns-in-Err-Fault-clause-noted
returns-in-Err-Fault-clause-noted c =
    let refused = rw c.in-Err-Fault.field-0-is at c.in-Err-Fault.ensures.refused in
    IfOk-weaker c.tell_fault.result _ _ (λ told e. inr (inr (c.in-Err-Fault.cause, refused, e))) c.tell_fault.ensures.noted
