use Rattle.std.proofs.Common.{◌≡◌, map, ap, subst, sym, ◌∙◌}
use Rattle.dbtg_script.specs.Tokens.{view}
use Rattle.dbtg_program.specs.declared.program.Sentence.TheVariants.{Filled}
use Rattle.dbtg_program.specs.Sentences.{fields_in, marked, word_of, words_in}
use Rattle.dbtg_program.specs.Inside.Reading.{Refuses, statement_verdict, unknown_verdict, words_verdict}
use Rattle.dbtg_program.specs.Inside.Views.{view_marked}
use Rattle.dbtg_program.proofs.Judged.{said_with_fields, statement_known, statement_unknown}
use Rattle.dbtg_program.proofs.statement.read_filled.Goals as goal

pub returns-in-Some-clause-refused : goal.returns-in-Some-clause-refused
returns-in-Some-clause-refused c =
    let text = c.args.text.now in
    let ws = map view c.args.words.now in
    let marks : map view_marked c.as_slice.result.now ≡ marked ws = ap (map view_marked) c.as_slice.ensures.value ∙ c.in_ok-marked.ensures in
    statement_unknown text ws c.in-Some.cause (ap (unknown_verdict text) (sym marks) ∙ sym c.unknown_field.ensures ∙ c.in-Some.is)

pub returns-in-Ok-clause-accepted : goal.returns-in-Ok-clause-accepted
returns-in-Ok-clause-accepted c =
    let text = c.args.text.now in
    let ws = map view c.args.words.now in
    let marks : map view_marked c.as_slice.result.now ≡ marked ws = ap (map view_marked) c.as_slice.ensures.value ∙ c.in_ok-marked.ensures in
    let again : map view_marked c.as_slice-2.result.now ≡ marked ws = ap (map view_marked) c.as_slice-2.ensures.value ∙ c.in_ok-marked.ensures in
    let words : c.as_slice-3.result.now ≡ words_in text ws = c.as_slice-3.ensures.value ∙ c.in_ok-words.ensures ∙ ap (map (word_of (fields_in text))) again in
    statement_known text ws (ap (unknown_verdict text) (sym marks) ∙ sym c.unknown_field.ensures ∙ c.in_default.is) ∙ ap (words_verdict text) (sym words) ∙ c.in-Ok.ensures.accepted

pub returns-in-Ok-clause-sentence : goal.returns-in-Ok-clause-sentence
returns-in-Ok-clause-sentence c =
    let text = c.args.text.now in
    let ws = map view c.args.words.now in
    let again : map view_marked c.as_slice-2.result.now ≡ marked ws = ap (map view_marked) c.as_slice-2.ensures.value ∙ c.in_ok-marked.ensures in
    c.filled.ensures ∙ ap Filled (c.in_ok-words.ensures ∙ ap (map (word_of (fields_in text))) again) ∙ sym (said_with_fields text ws c.requires)

pub returns-clause-refused : goal.returns-clause-refused
returns-clause-refused c =
    let text = c.args.text.now in
    let ws = map view c.args.words.now in
    let marks : map view_marked c.as_slice.result.now ≡ marked ws = ap (map view_marked) c.as_slice.ensures.value ∙ c.in_ok-marked.ensures in
    let again : map view_marked c.as_slice-2.result.now ≡ marked ws = ap (map view_marked) c.as_slice-2.ensures.value ∙ c.in_ok-marked.ensures in
    let words : c.as_slice-3.result.now ≡ words_in text ws = c.as_slice-3.ensures.value ∙ c.in_ok-words.ensures ∙ ap (map (word_of (fields_in text))) again in
    let known : statement_verdict text ws ≡ words_verdict text c.as_slice-3.result.now =
    statement_known text ws (ap (unknown_verdict text) (sym marks) ∙ sym c.unknown_field.ensures ∙ c.in_default.is) ∙ ap (words_verdict text) (sym words) in
    subst (Refuses c.in-Err.fault) (sym known) c.in-Err.ensures.refused
