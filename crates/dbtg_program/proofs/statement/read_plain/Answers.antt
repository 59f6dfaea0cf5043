use Rattle.std.proofs.Common.{◌≡◌, [], map, ap, subst, sym, ◌∙◌}
use Rattle.std.specs.Prelude.{option_map}
use Rattle.dbtg_schema.specs.Lists.{Lists}
use Rattle.dbtg_schema.specs.Texts.Forms.{labels}
use Rattle.dbtg_script.specs.Reading.{verdict}
use Rattle.dbtg_script.specs.StatementGrammar.{fits, statement}
use Rattle.dbtg_script.specs.Statements.{statement_of}
use Rattle.dbtg_script.specs.Tokens.{view}
use Rattle.dbtg_program.specs.declared.fault.ProgramCause.TheVariants.{AsInScript}
use Rattle.dbtg_program.specs.declared.program.Sentence.TheVariants.{Statement}
use Rattle.dbtg_program.specs.Inside.Reading.{Refuses, statement_verdict}
use Rattle.dbtg_program.proofs.Judged.{as_said, judged_plainly, said_in_script}
use Rattle.dbtg_program.proofs.statement.read_plain.Goals as goal

pub returns-in-Ok-clause-accepted : goal.returns-in-Ok-clause-accepted
returns-in-Ok-clause-accepted c =
    let ws = map view c.args.words.now in
    judged_plainly c.args.text.now ws c.requires ∙ ap (λ (s : Lists). option_map AsInScript (verdict s [] statement ws)) (sym c.schema.ensures) ∙ ap (option_map AsInScript) c.in-Ok.ensures.accepted

pub returns-in-Ok-clause-sentence : goal.returns-in-Ok-clause-sentence
returns-in-Ok-clause-sentence c =
    let ws = map view c.args.words.now in
    ap Statement (c.in-Ok.ensures.statement ∙ ap (λ (s : Lists). statement_of s (labels fits statement ws)) c.schema.ensures) ∙ sym (said_in_script c.args.text.now ws c.requires)

pub returns-in-Err-clause-refused : goal.returns-in-Err-clause-refused
returns-in-Err-clause-refused c =
    let ws = map view c.args.words.now in
    let judged : statement_verdict c.args.text.now ws ≡ option_map AsInScript (verdict c.schema.result.now [] statement ws) =
    judged_plainly c.args.text.now ws c.requires ∙ ap (λ (s : Lists). option_map AsInScript (verdict s [] statement ws)) (sym c.schema.ensures) in
    subst (Refuses c.as_in_script.result) (sym judged) (as_said c.in-Err.fault c.as_in_script.result _ c.as_in_script.ensures c.in-Err.ensures.refused)
