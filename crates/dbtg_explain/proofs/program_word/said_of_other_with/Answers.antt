use Rattle.dbtg_explain.proofs.program_word.said_of_other_with.Goals as goal

pub returns : goal.returns
returns c = rw c.has_verb.ensures at c.said_of_other.ensures
