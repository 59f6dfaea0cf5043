use Rattle.dbtg_step.proofs.drawing.draw.Goals as goal

pub make-requires-clause-may : goal.make-requires-clause-may
make-requires-clause-may c =
    rw c.in_ok-statement.ensures (c.requires.may (rw c.make_room.ensures.items at c.in_ok-make_room.ensures.few) c.statement_of.result.now c.statement_of.ensures)
