use Rattle.dbtg_explain.proofs.program_word.said_of_statement_misfit.Goals as goal

pub returns : goal.returns
returns c = rw (c.as_slice.ensures.value, c.in_ok-statement.ensures) at c.said_of_line_misfit.ensures
