use Rattle.std.proofs.Common.{arith}
use Rattle.dbtg_program.proofs.Steps.{is_there, stood}
use Rattle.dbtg_program.proofs.going.go.Goals as goal

pub go_by-requires : goal.go_by-requires
go_by-requires c =
    let there = is_there c.args.program.now.lines c.at.result c.args.state.now.at c.in-Some.line.now c.at.ensures c.in-Some.ensures in
    grind (arith, there, c.requires)

pub returns-in-Some-clause-stood : goal.returns-in-Some-clause-stood
returns-in-Some-clause-stood c =
    stood c.args.program.now c.args.state.now c.go_by.result (is_there c.args.program.now.lines c.at.result c.args.state.now.at c.in-Some.line.now c.at.ensures c.in-Some.ensures)
