use Rattle.std.proofs.Common.{◌≡◌, ◌++◌, ◌∷◌, [], Some, ap, length, ◌∙◌}
use Rattle.std.specs.Prelude.{slice_get}
use Rattle.dbtg_program.specs.declared.program.Line.{Line}
use Rattle.dbtg_program.specs.Inside.Views.{view_holding}
use Rattle.dbtg_program.proofs.Judged.{said_line}
use Rattle.dbtg_program.proofs.reader.take_sentence.Goals as goal

pub returns-in_ok-push-clause-taken : goal.returns-in_ok-push-clause-taken
returns-in_ok-push-clause-taken c l stands =
    let text = c.args.text.now in
    let old = c.args.lines.now.items in
    let got : Some (view_holding c.in-Some.holding.now) ≡ slice_get text.sentences (length old) = rw c.count-at.ensures at c.in-Some.ensures in
    c.in_ok-push.ensures.items ∙ ap (λ (x : Line). old ++ x ∷ []) (said_line text (length old) l (view_holding c.in-Some.holding.now) c.in_ok-sentence.sentence got stands c.in_ok-sentence.ensures.sentence)
