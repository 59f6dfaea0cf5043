use Rattle.std.proofs.Common.{rules, ◌≡◌, true}
use Rattle.dbtg_script.specs.Lines.{is_statement}
use Rattle.dbtg_script.proofs.Reading.AtOnce.{begun_where}
use Rattle.dbtg_script.proofs.Reading.UsualLines.{allowed_and_closed, what_is_said_is_so}
use Rattle.dbtg_script.proofs.usual.usual_statement.Goals as goal

pub returns-clause-says : goal.returns-clause-says
returns-clause-says c =
    let line = c.args.line.now in
    let one : is_statement line ≡ true = search rules in
    let sound = allowed_and_closed line (search rules) in
    let allowed = sound.0 in
    let closed = sound.1 in
    what_is_said_is_so c.args.schema.now line c.by_words.result one allowed closed c.by_words.ensures.said

pub returns-clause-memory : goal.returns-clause-memory
returns-clause-memory c =
    let line = c.args.line.now in
    let one : is_statement line ≡ true = search rules in
    let sound = allowed_and_closed line (search rules) in
    let allowed = sound.0 in
    let closed = sound.1 in
    begun_where c.by_words.result c.args.schema.now line one allowed closed c.by_words.ensures.wanted
