use Rattle.dbtg_command.proofs.ForMemory.{moves_told}
use Rattle.dbtg_command.proofs.reading.moves_of.Goals as goal

pub returns-in-Err-clause-refused : goal.returns-in-Err-clause-refused
returns-in-Err-clause-refused c = rw c.of_moves.ensures (moves_told c.args.text.now c.in-Err.fault c.in-Err.ensures.refused c.in-Err.ensures.at_once)
