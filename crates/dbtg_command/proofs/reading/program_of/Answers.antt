use Rattle.dbtg_command.proofs.ForMemory.{program_told}
use Rattle.dbtg_command.proofs.reading.program_of.Goals as goal

pub returns-in-Err-clause-refused : goal.returns-in-Err-clause-refused
returns-in-Err-clause-refused c = rw c.of_program.ensures (program_told c.args.number c.args.schema.now c.args.text.now c.in-Err.fault c.in-Err.ensures.refused c.in-Err.ensures.at_once)
