use Rattle.dbtg_explain.proofs.misfit.said_of_line_misfit.Goals as goal

pub returns : goal.returns
returns c = rw (c.as_slice.ensures.value, c.in_ok-word.ensures, c.as_slice-2.ensures.value, c.in_ok-wanted.ensures) at c.said_in_line.ensures
