use Rattle.dbtg_explain.proofs.misfit.said_of_schema_misfit.Goals as goal

pub returns : goal.returns
returns c =
    rw (c.line_at.ensures, c.as_slice-2.ensures.value, c.in_ok-line.ensures, c.as_slice.ensures.value, c.in_ok-laid.ensures, c.as_slice-3.ensures.value, c.in_ok-wanted.ensures) at c.said_of_met.ensures
