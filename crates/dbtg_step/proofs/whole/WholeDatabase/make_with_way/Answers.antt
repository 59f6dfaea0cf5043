use Rattle.std.proofs.Common.{◌-◌, ap, arith, length, slice_set}
use Rattle.dbtg_step.proofs.MadeWhole.Reversals.{over_read}
use Rattle.dbtg_step.proofs.MadeWhole.Wholes.{making, may_go_on, read_agrees, read_made, read_maker, read_there, read_unmade, read_whole}
use Rattle.dbtg_step.proofs.whole.WholeDatabase.make_with_way.Goals as goal

pub make_effect_with_way-requires-clause-of_schema : goal.make_effect_with_way-requires-clause-of_schema
make_effect_with_way-requires-clause-of_schema c = (read_maker c.self.inside.schema.now c.self.inside.capacity c.self.inside.held c.self.inside.units.items c.self.inside.history.items c.self.invariant c.args.self.now c.self.view_is c.args.unit c.index_mut-maker.result.now c.requires.numbered c.requires.within c.index_mut-maker.ensures.value).of_schema

pub make_effect_with_way-requires-clause-within : goal.make_effect_with_way-requires-clause-within
make_effect_with_way-requires-clause-within c = (read_maker c.self.inside.schema.now c.self.inside.capacity c.self.inside.held c.self.inside.units.items c.self.inside.history.items c.self.invariant c.args.self.now c.self.view_is c.args.unit c.index_mut-maker.result.now c.requires.numbered c.requires.within c.index_mut-maker.ensures.value).within

pub make_effect_with_way-requires-clause-versions : goal.make_effect_with_way-requires-clause-versions
make_effect_with_way-requires-clause-versions c =
    let few = c.in_ok-make_room.ensures.few in
    let same = ap length c.in_ok-make_room.ensures.items in
    may_go_on c.self.inside.schema.now c.self.inside.capacity c.self.inside.held c.self.inside.units.items c.self.inside.history.items c.self.invariant (omega (arith, few, same))

pub make_effect_with_way-requires-clause-agrees : goal.make_effect_with_way-requires-clause-agrees
make_effect_with_way-requires-clause-agrees c = read_agrees c.self.inside.schema.now c.self.inside.capacity c.self.inside.held c.self.inside.units.items c.self.inside.history.items c.self.invariant c.args.self.now c.self.view_is c.args.unit c.index_mut-maker.result.now c.requires.numbered c.requires.within c.index_mut-maker.ensures.value

pub invariant_of-self-in_err-made : goal.invariant_of-self-in_err-made
invariant_of-self-in_err-made c =
    read_unmade c.self.inside.schema.now c.self.inside.capacity c.self.inside.held c.self.inside.units.items c.self.inside.history.items c.self.invariant c.args.self.now c.self.view_is c.args.unit c.index_mut-maker.result.now c.requires.numbered c.requires.within c.index_mut-maker.ensures.value
    c.make_effect_with_way.new.unit c.make_effect_with_way.new.held c.make_room.new.history.items c.in_err-made.ensures.unit c.make_effect_with_way.ensures.all c.in_err-made.ensures.shows c.in_ok-make_room.ensures.items

pub invariant_of-self-2 : goal.invariant_of-self-2
invariant_of-self-2 c =
    read_whole c.self.inside.schema.now c.self.inside.capacity c.self.inside.held c.self.inside.units.items c.self.inside.history.items c.self.invariant c.args.self.now c.self.view_is c.args.unit c.index_mut-maker.result.now c.requires.numbered c.requires.within c.index_mut-maker.ensures.value
    c.args.statement c.requires.fitting c.make_effect_with_way.new.unit c.make_effect_with_way.new.held c.in_ok-made.made.0 c.in_ok-made.ensures.effect c.make_effect_with_way.ensures.all c.make_room.new.history.items c.enter.new.history.items c.in_ok-make_room.ensures.items c.enter.ensures.history

pub returns-clause-made : goal.returns-clause-made
returns-clause-made c =
    read_made c.self.inside.schema.now c.self.inside.capacity c.self.inside.held c.self.inside.units.items c.self.inside.history.items c.self.invariant c.args.self.now c.self.view_is c.args.unit c.index_mut-maker.result.now c.requires.numbered c.requires.within c.index_mut-maker.ensures.value
    c.args.statement c.requires.fitting c.make_effect_with_way.new.unit c.make_effect_with_way.new.held c.in_ok-made.made.0 c.in_ok-made.ensures.effect c.make_effect_with_way.ensures.all c.make_room.new.history.items c.enter.new.history.items c.in_ok-make_room.ensures.items c.enter.ensures.history

pub returns-clause-back : goal.returns-clause-back
returns-clause-back c =
    let made = read_made c.self.inside.schema.now c.self.inside.capacity c.self.inside.held c.self.inside.units.items c.self.inside.history.items c.self.invariant c.args.self.now c.self.view_is c.args.unit c.index_mut-maker.result.now c.requires.numbered c.requires.within c.index_mut-maker.ensures.value c.args.statement c.requires.fitting c.make_effect_with_way.new.unit c.make_effect_with_way.new.held c.in_ok-made.made.0 c.in_ok-made.ensures.effect c.make_effect_with_way.ensures.all c.make_room.new.history.items c.enter.new.history.items c.in_ok-make_room.ensures.items c.enter.ensures.history in
    let there = read_there c.self.inside.schema.now c.self.inside.capacity c.self.inside.held c.self.inside.units.items c.self.inside.history.items c.self.invariant c.args.self.now c.self.view_is c.args.unit c.index_mut-maker.result.now c.requires.numbered c.requires.within c.index_mut-maker.ensures.value in
    over_read c.self.inside.schema.now c.self.inside.capacity c.self.inside.held c.self.inside.units.items c.self.inside.history.items c.self.invariant c.args.self.now c.self.view_is c.args.unit c.index_mut-maker.result.now c.requires.numbered there
    c.args.statement (making c.self.inside.schema.now c.self.inside.capacity (length (slice_set c.self.inside.units.items (c.args.unit - 1) c.make_effect_with_way.new.unit)) c.enter.new.history.items) c.in_ok-made.made.1 made c.in_ok-made.ensures.back
