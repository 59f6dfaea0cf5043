use Rattle.dbtg_explain.proofs.program_word.said_of_sentence.Goals as goal

pub returns : goal.returns
returns c = rw (c.as_slice.ensures.value, c.in_ok-word.ensures) at c.said_of_stop.ensures
