use Rattle.std.proofs.Common.{arith}
use Rattle.std.proofs.lemmas.Grind.{common_steps}
use Rattle.dbtg_step.proofs.MadeWhole.Audits.{on_err}
use Rattle.dbtg_step.proofs.MadeWhole.Bares.{made_more, made_nothing, reads_agrees, reads_unit, reads_versions}
use Rattle.dbtg_step.proofs.bare.BareDatabase.answer.Goals as goal

pub make_effect-requires-clause-of_schema : goal.make_effect-requires-clause-of_schema
make_effect-requires-clause-of_schema c = (reads_unit (record { schema = c.self.inside.schema.now; capacity = c.self.inside.capacity; hands = c.self.inside.held; units = c.self.inside.units.items; count = c.self.inside.count }) c.args.self.now c.self.view_is c.requires.stands c.args.unit c.index_mut-maker.result.now c.requires.numbered c.requires.within c.index_mut-maker.ensures.value).of_schema

pub make_effect-requires-clause-within : goal.make_effect-requires-clause-within
make_effect-requires-clause-within c = (reads_unit (record { schema = c.self.inside.schema.now; capacity = c.self.inside.capacity; hands = c.self.inside.held; units = c.self.inside.units.items; count = c.self.inside.count }) c.args.self.now c.self.view_is c.requires.stands c.args.unit c.index_mut-maker.result.now c.requires.numbered c.requires.within c.index_mut-maker.ensures.value).within

pub make_effect-requires-clause-versions : goal.make_effect-requires-clause-versions
make_effect-requires-clause-versions c = reads_versions (record { schema = c.self.inside.schema.now; capacity = c.self.inside.capacity; hands = c.self.inside.held; units = c.self.inside.units.items; count = c.self.inside.count }) c.args.self.now c.self.view_is c.requires.stands c.args.unit c.index_mut-maker.result.now c.requires.numbered c.requires.within c.index_mut-maker.ensures.value (grind (arith, common_steps))

pub make_effect-requires-clause-agrees : goal.make_effect-requires-clause-agrees
make_effect-requires-clause-agrees c = reads_agrees (record { schema = c.self.inside.schema.now; capacity = c.self.inside.capacity; hands = c.self.inside.held; units = c.self.inside.units.items; count = c.self.inside.count }) c.args.self.now c.self.view_is c.requires.stands c.args.unit c.index_mut-maker.result.now c.requires.numbered c.requires.within c.index_mut-maker.ensures.value

pub returns-in_err-answer-clause-unchanged : goal.returns-in_err-answer-clause-unchanged
returns-in_err-answer-clause-unchanged c = on_err c.from_residual.result _ (made_nothing (record { schema = c.self.inside.schema.now; capacity = c.self.inside.capacity; hands = c.self.inside.held; units = c.self.inside.units.items; count = c.self.inside.count }) c.args.self.now c.self.view_is c.requires.stands c.args.unit c.index_mut-maker.result.now c.requires.numbered c.requires.within c.index_mut-maker.ensures.value c.make_effect.new.unit c.make_effect.new.held c.make_effect.ensures.all c.in_err-answer.ensures.unit c.in_err-answer.ensures.shows)

pub returns-clause-made : goal.returns-clause-made
returns-clause-made c = made_more (record { schema = c.self.inside.schema.now; capacity = c.self.inside.capacity; hands = c.self.inside.held; units = c.self.inside.units.items; count = c.self.inside.count }) c.args.self.now c.self.view_is c.requires.stands c.args.unit c.index_mut-maker.result.now c.requires.numbered c.requires.within c.index_mut-maker.ensures.value c.make_effect.new.unit c.make_effect.new.held c.make_effect.ensures.all c.args.statement.now c.in_ok-answer.answer _ c.requires.fitting c.in_ok-answer.ensures.effect (grind (arith, common_steps))
