use Rattle.std.proofs.Common.{◌≡◌, ◌∙◌, Bool, Some, ap, inr, subst, sym}
use Rattle.std.specs.Prelude.{option_map}
use Rattle.dbtg_shell.specs.Inside.Programs.{MayHaveMade, TypesLine, seen}
use Rattle.dbtg_shell.specs.Programs.{line_due}
use Rattle.dbtg_shell.proofs.ProgramSteps.{due_typed, may_have_made}
use Rattle.dbtg_session.proofs.Public.{on_err}
use Rattle.dbtg_shell.proofs.dialogue.make_due.Goals as goal

pub returns-in_err-type_line-clause-part : goal.returns-in_err-type_line-clause-part
returns-in_err-type_line-clause-part c =
    let u = c.args.shell.now.turn in
    let old = c.args.shell.now.session in
    let new = c.type_line.new.shell.session in
    let f = seen c.args.followed.now in
    let line = c.as_slice.result.now in
    let due : line_due f ≡ Some line = sym c.in_ok-line.ensures ∙ ap (option_map (λ l. l.items)) c.in-Some.is ∙ ap Some (sym c.as_slice.ensures.value) in
    on_err c.from_residual-in_err-type_line.result (MayHaveMade u old f new) (may_have_made u old line new f due c.in_err-type_line.ensures.part)

pub returns-in_err-told-in-Some-last-clause-part : goal.returns-in_err-told-in-Some-last-clause-part
returns-in_err-told-in-Some-last-clause-part c =
    let u = c.args.shell.now.turn in
    let old = c.args.shell.now.session in
    let new = c.type_line.new.shell.session in
    let f = seen c.args.followed.now in
    let line = c.as_slice.result.now in
    let due : line_due f ≡ Some line = sym c.in_ok-line.ensures ∙ ap (option_map (λ l. l.items)) c.in-Some.is ∙ ap Some (sym c.as_slice.ensures.value) in
    let typed = subst (λ (made : Bool). TypesLine u old line made new) c.if-not-branch.false c.in_ok-type_line.ensures.typed in
    on_err c.from_residual-in_err-told-in-Some-last.result (MayHaveMade u old f new) (inr (due_typed u old line new f due typed))
