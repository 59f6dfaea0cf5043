use Rattle.std.proofs.Common.{◌∙◌, ◌++◌, ◌∷◌, []}
use Rattle.std.proofs.lemmas.List.{append_assoc}
use Rattle.dbtg_session.proofs.session.make_and_enter.Goals as goal

pub returns-in-Err-clause-script : goal.returns-in-Err-clause-script
returns-in-Err-clause-script c =
    let text = c.args.script.now.text.items in
    let line = c.args.line.now in
    let entered = c.in_ok-enter.ensures.entered in
    let left = c.drop_line.ensures text (line ++ 10 ∷ []) c.args.script.now.begins.items (entered.text ∙ append_assoc text line (10 ∷ [])) entered.begins in
    record { text = left.0; begins = left.1 }
