use Rattle.std.proofs.Common.{arith}
use Rattle.dbtg_program.proofs.Judged.{short_text}
use Rattle.dbtg_program.proofs.reader.read_program.Goals as goal

pub returns-clause-accepted : goal.returns-clause-accepted
returns-clause-accepted c = rw (short_text c.args.schema.now c.args.text.now (omega arith)) c.read_short.ensures.accepted

pub returns-clause-refused : goal.returns-clause-refused
returns-clause-refused c = rw (short_text c.args.schema.now c.args.text.now (omega arith)) c.read_short.ensures.refused
