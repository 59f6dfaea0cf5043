use Rattle.dbtg_command.proofs.reason.said_of_line.Goals as goal

pub returns : goal.returns
returns c = rw c.line_at.ensures at c.said_of_word.ensures
