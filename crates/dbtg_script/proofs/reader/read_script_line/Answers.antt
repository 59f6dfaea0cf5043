use Rattle.std.proofs.Common.{Some, sym}
use Rattle.std.specs.Prelude.{Ok}
use Rattle.dbtg_script.specs.Lines.{trimmed}
use Rattle.dbtg_script.proofs.Fitting.FittingStatements.{line_read_fits}
use Rattle.dbtg_script.proofs.Reading.AtOnce.{not_at_once}
use Rattle.dbtg_script.proofs.reader.read_script_line.Goals as goal

pub returns-in-Some-clause-fitting : goal.returns-in-Some-clause-fitting
returns-in-Some-clause-fitting c sound =
    let found = rw (c.in-Some.is, c.trimmed-line.ensures) at c.in_ok-statement.ensures.says in
    line_read_fits c.args.schema.now sound c.args.count (trimmed c.args.line.now) (Ok (Some c.in-Some.statement)) found.faultless (sym found.said)

pub returns-in-Some-clause-at_once : goal.returns-in-Some-clause-at_once
returns-in-Some-clause-at_once c = λ cause wrong.
    let found = rw (c.in-Some.is, c.trimmed-line.ensures) at c.in_ok-statement.ensures.says in
    not_at_once c.args.schema.now c.args.count (trimmed c.args.line.now) cause found.faultless wrong

pub returns-clause-fitting : goal.returns-clause-fitting
returns-clause-fitting c sound =
    let accepted = rw c.new-words.ensures at c.read_line.ensures.accepted in
    let statement = rw c.new-words.ensures at c.read_line.ensures.statement in
    line_read_fits c.args.schema.now sound c.args.count c.trimmed-line.result.now c.read_line.result accepted statement
