use Rattle.std.proofs.Common.{◌∙◌, ℕ, ap}
use Rattle.std.proofs.lemmas.Result.{IfOk-weaker}
use Rattle.dbtg_explain.specs.FaultyWord.{line_at}
use Rattle.dbtg_explain.specs.Misfits.{said_of_word}
use Rattle.dbtg_session.specs.Replies.{IsFaultText}
use Rattle.dbtg_session.proofs.replies.fault_reply.Goals as goal

pub returns : goal.returns
returns c =
    let schema = c.args.schema.now in
    let line = c.args.line.now in
    let said = c.as_slice.ensures.value ∙ c.in_ok-word.ensures ∙ ap (said_of_word schema c.number-number.result) c.line_at.ensures ∙ ap (λ (number : ℕ). said_of_word schema number (line_at 1 line)) c.number-number.ensures in
    IfOk-weaker c.fault_line.result _ (λ out. IsFaultText schema line c.args.cause out.items)
    (λ out is. rw (c.meaning_of-meaning.ensures, said, c.hint_for.ensures, c.number-number.ensures) at is) c.fault_line.ensures
