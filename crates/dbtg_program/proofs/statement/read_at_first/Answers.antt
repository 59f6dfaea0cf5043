use Rattle.std.proofs.Common.{ap, subst, sym, ◌∙◌}
use Rattle.std.specs.Prelude.{option_map}
use Rattle.dbtg_program.specs.declared.fault.ProgramCause.TheVariants.{AsInScript}
use Rattle.dbtg_program.specs.Inside.Reading.{Refuses}
use Rattle.dbtg_program.proofs.Judged.{as_said, at_first_is}
use Rattle.dbtg_program.proofs.statement.read_at_first.Goals as goal

pub returns-in-Ok-clause-accepted : goal.returns-in-Ok-clause-accepted
returns-in-Ok-clause-accepted c =
    at_first_is c.args.text.now c.schema.result.now c.beginning.result.now c.args.words.now c.schema.ensures c.beginning.ensures ∙ ap (option_map AsInScript) c.in-Ok.ensures.accepted

pub returns-in-Ok-clause-statement : goal.returns-in-Ok-clause-statement
returns-in-Ok-clause-statement c = rw (c.schema.ensures, c.beginning.ensures) at c.in-Ok.ensures.statement

pub returns-in-Err-clause-refused : goal.returns-in-Err-clause-refused
returns-in-Err-clause-refused c =
    subst (Refuses c.as_in_script.result) (sym (at_first_is c.args.text.now c.schema.result.now c.beginning.result.now c.args.words.now c.schema.ensures c.beginning.ensures))
    (as_said c.in-Err.fault c.as_in_script.result _ c.as_in_script.ensures c.in-Err.ensures.refused)
