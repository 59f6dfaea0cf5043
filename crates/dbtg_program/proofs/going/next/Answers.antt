use Rattle.std.proofs.Common.{◌≡◌, ◌<◌, arith}
use Rattle.std.proofs.lemmas.Bool.Decides.{nat_tests}
use Rattle.dbtg_program.proofs.Steps.{is_astray, is_ended, is_gone, is_made}
use Rattle.dbtg_program.proofs.going.next.Goals as goal

pub returns-in-Makes-clause-due : goal.returns-in-Makes-clause-due
returns-in-Makes-clause-due c =
    let some : 0 < c.loop-left.left = grind (arith, nat_tests, c.loop-left-test.true) in
    is_made c.args.schema.now c.args.program.now c.loop-left.left c.loop-left.last c.loop-left.state c.go.new.state c.in_ok-go.field-0 c.in-Makes.statement _ some c.in_ok-go.ensures.comes c.in_ok-go.ensures.stays c.in-Makes.is c.loop-left.invariant

pub returns-in-Ends-clause-due : goal.returns-in-Ends-clause-due
returns-in-Ends-clause-due c =
    let some : 0 < c.loop-left.left = grind (arith, nat_tests, c.loop-left-test.true) in
    is_ended c.args.schema.now c.args.program.now c.loop-left.left c.loop-left.last c.loop-left.state c.go.new.state c.in_ok-go.field-0 c.in-Ends.end _ some c.in_ok-go.ensures.comes c.in_ok-go.ensures.stays c.in-Ends.is c.loop-left.invariant

pub loop-left-preserved : goal.loop-left-preserved
loop-left-preserved c =
    let some : 0 < c.loop-left.left = grind (arith, nat_tests, c.loop-left-test.true) in
    is_gone c.args.schema.now c.args.program.now c.loop-left.left c.loop-left.last c.line_number-number.result c.loop-left.state c.go.new.state c.in_ok-go.field-0 _ some c.in_ok-go.ensures.comes c.line_number-number.ensures c.in-Goes.is c.loop-left.invariant

pub returns-clause-due : goal.returns-clause-due
returns-clause-due c =
    let none : c.loop-left.left ≡ 0 = grind (arith, nat_tests, c.loop-left-test.false) in
    is_astray c.args.schema.now c.args.program.now c.loop-left.left c.loop-left.last c.loop-left.state _ none c.loop-left.invariant
