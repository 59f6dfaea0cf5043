use Rattle.dbtg_explain.proofs.topic.explained.Goals as goal

pub returns-in-Status : goal.returns-in-Status
returns-in-Status c = rw c.in-Status.is c.status_text.ensures

pub returns-in-Fault : goal.returns-in-Fault
returns-in-Fault c = rw (c.in-Fault.is, ← c.kind_row.ensures) c.fault_text.ensures
