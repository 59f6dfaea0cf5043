use Rattle.std.proofs.Common.{arith, length}
use Rattle.dbtg_script.proofs.Reading.AtOnce.{on_err}
use Rattle.dbtg_script.proofs.reader.said_at_once.Goals as goal

pub returns-in-Some-clause-says : goal.returns-in-Some-clause-says
returns-in-Some-clause-says c =
    let found = rw c.in-Some.is at c.in_ok-statement.ensures.says in
    found (length c.args.statements.now) (omega arith)

pub returns-in_err-statement-clause-memory : goal.returns-in_err-statement-clause-memory
returns-in_err-statement-clause-memory c = on_err c.from_residual.result _ (c.in_err-statement.ensures.memory (length c.args.statements.now) (omega arith))

pub returns-clause-says : goal.returns-clause-says
returns-clause-says c = c.said_again.ensures.says c.args.schema.now c.requires

pub returns-clause-memory : goal.returns-clause-memory
returns-clause-memory c = c.said_again.ensures.memory c.args.schema.now c.requires
