use Rattle.dbtg_command.proofs.ForMemory.{trace_told}
use Rattle.dbtg_command.proofs.reading.traced_of.Goals as goal

pub returns-in-Err-clause-refused : goal.returns-in-Err-clause-refused
returns-in-Err-clause-refused c = rw c.of_trace.ensures (trace_told c.args.schema.now c.args.units c.args.text.now c.in-Err.fault c.in-Err.ensures.refused c.in-Err.ensures.at_once)
