use Rattle.std.proofs.Common.{◌∙◌, sym, subst}
use Rattle.dbtg_script.specs.Reading.{Refuses}
use Rattle.dbtg_script.proofs.Reading.ScriptSteps.{closed_line}
use Rattle.dbtg_script.proofs.reader.read_statement.Goals as goal

pub returns-in-Err-clause-refused : goal.returns-in-Err-clause-refused
returns-in-Err-clause-refused c =
    subst (Refuses c.in-Err.fault) (sym (closed_line c.args.words.now.schema c.args.line.now (sym c.ends_in_text.ensures ∙ c.if-ends_in_text.false))) c.in-Err.ensures.refused

pub returns-in_ok-statement_of-in-Ok-clause-accepted : goal.returns-in_ok-statement_of-in-Ok-clause-accepted
returns-in_ok-statement_of-in-Ok-clause-accepted c =
    closed_line c.args.words.now.schema c.args.line.now (sym c.ends_in_text.ensures ∙ c.if-ends_in_text.false) ∙ c.in-Ok.ensures.accepted
