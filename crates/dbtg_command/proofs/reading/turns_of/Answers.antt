use Rattle.dbtg_command.proofs.ForMemory.{turns_told}
use Rattle.dbtg_command.proofs.reading.turns_of.Goals as goal

pub returns-in-Err-clause-refused : goal.returns-in-Err-clause-refused
returns-in-Err-clause-refused c = rw c.of_turns.ensures (turns_told c.args.text.now c.in-Err.fault c.in-Err.ensures.refused c.in-Err.ensures.at_once)
