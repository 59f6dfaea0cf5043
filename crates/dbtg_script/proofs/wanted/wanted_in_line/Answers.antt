use Rattle.dbtg_script.proofs.wanted.wanted_in_line.Goals as goal

pub returns : goal.returns
returns c = rw (c.picture.ensures, c.in_ok-state.ensures.words, c.in_ok-state.ensures.state, c.trimmed.ensures, c.new-words.ensures) at c.things.ensures
