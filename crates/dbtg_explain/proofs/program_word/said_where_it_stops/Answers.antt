use Rattle.dbtg_explain.proofs.program_word.said_where_it_stops.Goals as goal

pub returns : goal.returns
returns c = rw (c.line_at.ensures, c.as_slice.ensures.value, c.in_ok-word.ensures) at c.said_in_line.ensures
