use Rattle.std.proofs.Common.{◌∙◌, ap, map, subst, sym}
use Rattle.dbtg_unit.specs.Database.Laws.Replay.{IsHistoryOf}
use Rattle.dbtg_unit.specs.Database.State.Legal.{Legal}
use Rattle.dbtg_step.specs.Core.Whole.{Making, state_now}
use Rattle.dbtg_going.proofs.Turning.{if_both}
use Rattle.dbtg_explore.specs.Versions.{unversioned_unit}
use Rattle.dbtg_explore.proofs.Placed.{in_order_there, legal_now, unversioned_there}
use Rattle.dbtg_explore.proofs.meeting.Meeting.unversioned_units.Goals as goal

pub unversioned_units-requires-clause-legal : goal.unversioned_units-requires-clause-legal
unversioned_units-requires-clause-legal c =
    let of = subst (λ (d : Making). IsHistoryOf d.schema d.capacity d.units d.history) c.database-database.ensures c.history-history.ensures.of in
    let legal = legal_now c.args.self.now c.args.walk.now.database.making c.args.walk.now.goings.items c.requires.place c.requires.meeting of in
    subst (λ (d : Making). Legal d.schema d.capacity (state_now d).database) (sym c.database-database.ensures) legal.legal

pub unversioned_units-requires-clause-order : goal.unversioned_units-requires-clause-order
unversioned_units-requires-clause-order c =
    let of = subst (λ (d : Making). IsHistoryOf d.schema d.capacity d.units d.history) c.database-database.ensures c.history-history.ensures.of in
    let units = c.units.ensures.units ∙ ap (λ (d : Making). (state_now d).units) c.database-database.ensures in
    in_order_there c.args.self.now c.args.walk.now.database.making c.args.walk.now.goings.items c.requires.place c.requires.meeting of c.units.result.now units

pub returns : goal.returns
returns c =
    let units = c.units.ensures.units ∙ ap (λ (d : Making). (state_now d).units) c.database-database.ensures in
    if_both c.unversioned_units.result
    (λ all is same. is ∙ ap (λ (d : Making). map (unversioned_unit (state_now d).database) c.units.result.now) c.database-database.ensures
    ∙ unversioned_there c.args.self.now c.args.walk.now.database.making c.args.walk.now.goings.items c.requires.place c.units.result.now units)
    c.unversioned_units.ensures c.unversioned_units.ensures
