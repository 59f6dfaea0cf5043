use Rattle.std.proofs.Common.{None, Some, inl, ◌∙◌, ap, arith}
use Rattle.dbtg_going.specs.Goings.{comes_of}
use Rattle.dbtg_going.specs.Turns.{statement_due}
use Rattle.dbtg_going.proofs.Turning.{nobody}
use Rattle.dbtg_explore.specs.Orders.{Meeting}
use Rattle.dbtg_explore.proofs.Placed.{due_one, none_got, one_got}
use Rattle.dbtg_explore.proofs.meeting.Meeting.due.Goals as goal

pub returns-then-unit-eq0 : goal.returns-then-unit-eq0
returns-then-unit-eq0 c =
    let goings = c.args.walk.now.goings.items in
    due_one c.args.self.now c.args.walk.now.database.making.history goings c.args.unit None c.requires.are_going (nobody goings c.args.unit (inl c.if-unit-eq0.true))

pub returns-in-Some : goal.returns-in-Some
returns-in-Some c =
    let goings = c.args.walk.now.goings.items in
    let going = c.in-Some.going.now in
    let found = one_got goings c.deref.result.now c.args.unit going (omega (arith, c.if-unit-eq0.false)) c.deref.ensures.value c.in-Some.ensures.lookup.0 c.in-Some.ensures.lookup.1 in
    c.statement.ensures ∙ ap (λ (m : Meeting). statement_due m.schema (comes_of going)) c.self.view_is
    ∙ due_one c.args.self.now c.args.walk.now.database.making.history goings c.args.unit (Some going) c.requires.are_going found

pub returns-in-None : goal.returns-in-None
returns-in-None c =
    let goings = c.args.walk.now.goings.items in
    due_one c.args.self.now c.args.walk.now.database.making.history goings c.args.unit None c.requires.are_going
    (none_got goings c.deref.result.now c.args.unit (omega (arith, c.if-unit-eq0.false)) c.deref.ensures.value c.in-None.ensures.lookup.0)
