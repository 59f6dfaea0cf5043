use Rattle.std.proofs.Common.{take, arith}
use Rattle.dbtg_step.specs.Inside.Parts.{core_of}
use Rattle.dbtg_step.proofs.MadeWhole.TurnsTaken.{before_turns, between_after, turned_next}
use Rattle.dbtg_step.proofs.taking_turns.take_turns.Goals as goal

pub loop-unit-init : goal.loop-unit-init
loop-unit-init c = record { well = c.requires.well; turned = before_turns (core_of c.args.schema.now c.args.capacity c.args.parts.now) c.args.noted.now c.requires.between }

pub take_one_turn-requires-clause-between : goal.take_one_turn-requires-clause-between
take_one_turn-requires-clause-between c =
    between_after (take c.loop-unit.unit-index c.args.turns.now) (core_of c.args.schema.now c.args.capacity c.args.parts.now) (core_of c.args.schema.now c.args.capacity c.loop-unit.parts) c.args.noted.now c.loop-unit.noted c.loop-unit.invariant.turned

pub loop-unit-preserved : goal.loop-unit-preserved
loop-unit-preserved c =
    let old = core_of c.args.schema.now c.args.capacity c.args.parts.now in
    let mid = core_of c.args.schema.now c.args.capacity c.loop-unit.parts in
    let new = core_of c.args.schema.now c.args.capacity c.take_one_turn.new.parts in
    record {
      well = c.in_ok-take_one_turn.ensures.well;
      turned = turned_next c.args.turns.now c.loop-unit.unit-index _ (omega (arith, c.loop-unit-test.true)) old mid new c.args.noted.now c.loop-unit.noted c.take_one_turn.new.noted c.loop-unit.invariant.turned c.in_ok-take_one_turn.ensures.turned;
    }
