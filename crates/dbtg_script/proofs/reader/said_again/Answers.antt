use Rattle.std.proofs.Common.{arith}
use Rattle.dbtg_script.proofs.Reading.CachedLines.{at_index, says_again}
use Rattle.dbtg_script.proofs.Reading.AtOnce.{known_may, on_err}
use Rattle.dbtg_script.proofs.reader.said_again.Goals as goal

pub returns-in_ok-copy-in-Some-get-clause-says : goal.returns-in_ok-copy-in-Some-get-clause-says
returns-in_ok-copy-in-Some-get-clause-says c = λ schema h.
    rw c.in_ok-copy-in-Some-get.ensures (says_again schema c.args.statements.now c.args.line.now c.in-Some.at c.in-Some-get.statement.now (c.in-Some.ensures schema c.args.statements.now h) (omega arith) (at_index c.args.statements.now c.in-Some.at c.in-Some-get.statement.now c.in-Some-get.ensures.lookup.3.0 c.in-Some-get.ensures.lookup.3.1))

pub returns-in_err-copy-in-Some-get-clause-memory : goal.returns-in_err-copy-in-Some-get-clause-memory
returns-in_err-copy-in-Some-get-clause-memory c = λ schema h.
    on_err c.from_residual.result _ (known_may schema c.args.statements.now c.args.line.now c.in-Some.at (c.in-Some.ensures schema c.args.statements.now h) (omega arith))
