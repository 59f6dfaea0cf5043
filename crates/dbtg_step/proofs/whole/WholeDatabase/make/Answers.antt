use Rattle.std.proofs.Common.{ap, arith, length}
use Rattle.dbtg_step.proofs.MadeWhole.Wholes.{may_go_on, read_agrees, read_made, read_maker, read_unmade, read_whole}
use Rattle.dbtg_step.proofs.whole.WholeDatabase.make.Goals as goal

pub make_effect-requires-clause-of_schema : goal.make_effect-requires-clause-of_schema
make_effect-requires-clause-of_schema c = (read_maker c.self.inside.schema.now c.self.inside.capacity c.self.inside.held c.self.inside.units.items c.self.inside.history.items c.self.invariant c.args.self.now c.self.view_is c.args.unit c.index_mut-maker.result.now c.requires.numbered c.requires.within c.index_mut-maker.ensures.value).of_schema

pub make_effect-requires-clause-within : goal.make_effect-requires-clause-within
make_effect-requires-clause-within c = (read_maker c.self.inside.schema.now c.self.inside.capacity c.self.inside.held c.self.inside.units.items c.self.inside.history.items c.self.invariant c.args.self.now c.self.view_is c.args.unit c.index_mut-maker.result.now c.requires.numbered c.requires.within c.index_mut-maker.ensures.value).within

pub make_effect-requires-clause-versions : goal.make_effect-requires-clause-versions
make_effect-requires-clause-versions c =
    let few = c.in_ok-make_room.ensures.few in
    let same = ap length c.in_ok-make_room.ensures.items in
    may_go_on c.self.inside.schema.now c.self.inside.capacity c.self.inside.held c.self.inside.units.items c.self.inside.history.items c.self.invariant (omega (arith, few, same))

pub make_effect-requires-clause-agrees : goal.make_effect-requires-clause-agrees
make_effect-requires-clause-agrees c = read_agrees c.self.inside.schema.now c.self.inside.capacity c.self.inside.held c.self.inside.units.items c.self.inside.history.items c.self.invariant c.args.self.now c.self.view_is c.args.unit c.index_mut-maker.result.now c.requires.numbered c.requires.within c.index_mut-maker.ensures.value

pub invariant_of-self-in_err-answer : goal.invariant_of-self-in_err-answer
invariant_of-self-in_err-answer c =
    read_unmade c.self.inside.schema.now c.self.inside.capacity c.self.inside.held c.self.inside.units.items c.self.inside.history.items c.self.invariant c.args.self.now c.self.view_is c.args.unit c.index_mut-maker.result.now c.requires.numbered c.requires.within c.index_mut-maker.ensures.value
    c.make_effect.new.unit c.make_effect.new.held c.make_room.new.history.items c.in_err-answer.ensures.unit c.make_effect.ensures.all c.in_err-answer.ensures.shows c.in_ok-make_room.ensures.items

pub invariant_of-self-2 : goal.invariant_of-self-2
invariant_of-self-2 c =
    read_whole c.self.inside.schema.now c.self.inside.capacity c.self.inside.held c.self.inside.units.items c.self.inside.history.items c.self.invariant c.args.self.now c.self.view_is c.args.unit c.index_mut-maker.result.now c.requires.numbered c.requires.within c.index_mut-maker.ensures.value
    c.args.statement c.requires.fitting c.make_effect.new.unit c.make_effect.new.held c.in_ok-answer.answer c.in_ok-answer.ensures.effect c.make_effect.ensures.all c.make_room.new.history.items c.enter.new.history.items c.in_ok-make_room.ensures.items c.enter.ensures.history

pub returns-clause-made : goal.returns-clause-made
returns-clause-made c =
    read_made c.self.inside.schema.now c.self.inside.capacity c.self.inside.held c.self.inside.units.items c.self.inside.history.items c.self.invariant c.args.self.now c.self.view_is c.args.unit c.index_mut-maker.result.now c.requires.numbered c.requires.within c.index_mut-maker.ensures.value
    c.args.statement c.requires.fitting c.make_effect.new.unit c.make_effect.new.held c.in_ok-answer.answer c.in_ok-answer.ensures.effect c.make_effect.ensures.all c.make_room.new.history.items c.enter.new.history.items c.in_ok-make_room.ensures.items c.enter.ensures.history
