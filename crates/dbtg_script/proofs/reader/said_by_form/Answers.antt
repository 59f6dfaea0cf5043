use Rattle.std.proofs.Common.{arith}
use Rattle.dbtg_script.proofs.Reading.AtOnce.{roomy_where}
use Rattle.dbtg_script.proofs.reader.said_by_form.Goals as goal

pub returns-clause-memory : goal.returns-clause-memory
returns-clause-memory c = roomy_where c.usual_statement.result c.args.schema.now c.args.line.now c.args.count (omega arith) c.usual_statement.ensures.memory
