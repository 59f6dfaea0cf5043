use Rattle.dbtg_explain.proofs.program_word.said_of_program_word.Goals as goal

pub returns : goal.returns
returns c = rw (c.as_slice.ensures.value, c.in_ok-wanted.ensures) at c.said_with_wanted.ensures
