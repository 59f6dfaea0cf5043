use Rattle.std.proofs.Common.{refl, arith}
use Rattle.dbtg_unit.specs.declared.limits.TheConstants.{MOST_STATEMENTS}
use Rattle.dbtg_going.proofs.Turning.{at_the_end, not_turned, turned_again, turned_out}
use Rattle.dbtg_going.proofs.going.Programs.to_the_end.Goals as goal

pub loop-turn-init : goal.loop-turn-init
loop-turn-init c = not_turned c.args.self.now.schema.now c.args.self.now.list.now c.args.database.now c.args.members.now c.requires

pub returns-then-not-branch : goal.returns-then-not-branch
returns-then-not-branch c =
    at_the_end c.args.self.now.schema.now c.args.self.now.list.now c.args.database.now c.turn.new.database c.args.unit MOST_STATEMENTS c.turn.new.members refl
    (turned_out c.args.self.now.schema.now c.args.self.now.list.now c.args.database.now c.loop-turn.database c.turn.new.database c.args.unit c.loop-turn._turn MOST_STATEMENTS c.loop-turn.members c.turn.new.members (omega (arith, c.loop-turn-test.true))
    c.loop-turn.invariant c.in_ok-turn.ensures.turned (c.in_ok-turn.ensures.nothing c.if-not-branch.true))

pub loop-turn-preserved : goal.loop-turn-preserved
loop-turn-preserved c =
    turned_again c.args.self.now.schema.now c.args.self.now.list.now c.args.database.now c.loop-turn.database c.turn.new.database c.args.unit c.loop-turn._turn c.loop-turn.members c.turn.new.members c.loop-turn.invariant c.in_ok-turn.ensures.turned

pub returns : goal.returns
returns c =
    at_the_end c.args.self.now.schema.now c.args.self.now.list.now c.args.database.now c.loop-turn.database c.args.unit c.loop-turn._turn c.loop-turn.members (omega (arith, c.loop-turn-test.false, c.loop-turn.auto._turn-end)) c.loop-turn.invariant
