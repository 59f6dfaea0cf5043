use Rattle.std.proofs.Common.{◌≤◌, ◌-◌, length, arith}
use Rattle.dbtg_cells.proofs.Public.{there_is}
use Rattle.dbtg_step.proofs.TheCore.CourseAlone.{alone_within, stepped_alone}
use Rattle.dbtg_step.proofs.TheCore.NeedsRefused.{need_refused}
use Rattle.dbtg_step.proofs.needing.follows_need.Goals as goal

pub need_event-requires-clause-within : goal.need_event-requires-clause-within
need_event-requires-clause-within c = alone_within c.args.schema.now c.args.capacity c.args.unit c.args.parts.now c.need_now.new.parts c.requires.numbered c.requires.within c.need_now.ensures.alone

pub returns-in-Ok : goal.returns-in-Ok
returns-in-Ok c = stepped_alone c.args.schema.now c.args.capacity c.args.unit c.args.parts.now c.need_now.new.parts c.requires.numbered c.requires.within c.need_now.ensures.alone c.need_event.result c.need_event.new.parts c.need_event.ensures

pub returns-in-Err : goal.returns-in-Err
returns-in-Err c =
    let asked = c.need_now.new.parts in
    let within : c.args.unit ≤ length asked.runners.items = alone_within c.args.schema.now c.args.capacity c.args.unit c.args.parts.now asked c.requires.numbered c.requires.within c.need_now.ensures.alone in
    let it = there_is asked.runners.items (c.args.unit - 1) (omega (arith, within, c.requires.numbered)) in
    stepped_alone c.args.schema.now c.args.capacity c.args.unit c.args.parts.now asked c.requires.numbered c.requires.within c.need_now.ensures.alone _ asked
    (need_refused c.args.schema.now c.args.capacity c.args.unit asked it.0 c.need_now.ensures.well c.requires.numbered it.1 c.args.progress (c.need_now.ensures.stands it.0 it.1) (λ x. c.in-Err.ensures.refused it.0 x it.1))
