use Rattle.dbtg_command.proofs.ForMemory.{schema_told}
use Rattle.dbtg_command.proofs.reading.schema_of.Goals as goal

pub returns-in-Err-clause-refused : goal.returns-in-Err-clause-refused
returns-in-Err-clause-refused c = rw c.of_schema.ensures (schema_told c.args.text.now c.in-Err.fault c.in-Err.ensures.refused c.in-Err.ensures.too_long c.in-Err.ensures.at_once)
