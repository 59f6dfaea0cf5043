use Rattle.std.proofs.Common.{◌++◌, List, false, map, sym, ap, ◌∙◌}
use Rattle.dbtg_script.specs.Tokens.{view}
use Rattle.dbtg_program.specs.declared.marking.Marked.{Marked}
use Rattle.dbtg_program.specs.Sentences.{marked_from}
use Rattle.dbtg_program.specs.Inside.Views.{view_marked}
use Rattle.dbtg_program.proofs.Marks.{other_marks}
use Rattle.dbtg_program.proofs.marking.mark.Goals as goal

pub returns : goal.returns
returns c =
    let words = c.args.words.now in
    c.in_ok-push_marked.ensures ∙ ap (λ (ms : List Marked). map view_marked ms ++ marked_from false (map view words)) c.new-marked.ensures.items
    ∙ sym (other_marks words (sym c.is_sorted.ensures ∙ c.if-is_sorted.false))
