use Rattle.dbtg_session.proofs.commands.Shell.tell_fault.Goals as goal

pub returns-clause-told : goal.returns-clause-told
returns-clause-told c = rw c.schema.ensures at c.in_ok-told.ensures
