use Rattle.dbtg_step.proofs.TheCore.CourseAlone.{alone_within, stepped_alone}
use Rattle.dbtg_step.proofs.needing.event_before_ticket.Goals as goal

pub take_area_event-requires-clause-within : goal.take_area_event-requires-clause-within
take_area_event-requires-clause-within c = alone_within c.args.schema.now c.args.capacity c.args.unit c.args.parts.now c.area_now.new.parts c.requires.numbered c.requires.within c.area_now.ensures.alone

pub follows_need-requires-clause-within : goal.follows_need-requires-clause-within
follows_need-requires-clause-within c = alone_within c.args.schema.now c.args.capacity c.args.unit c.args.parts.now c.area_now.new.parts c.requires.numbered c.requires.within c.area_now.ensures.alone

pub returns-in-Some : goal.returns-in-Some
returns-in-Some c =
    stepped_alone c.args.schema.now c.args.capacity c.args.unit c.args.parts.now c.area_now.new.parts c.requires.numbered c.requires.within c.area_now.ensures.alone c.take_area_event.result c.take_area_event.new.parts
    (c.take_area_event.ensures c.args.schema.now c.args.capacity c.area_now.ensures.well c.in-Some.ensures.need)

pub returns-in-None : goal.returns-in-None
returns-in-None c =
    stepped_alone c.args.schema.now c.args.capacity c.args.unit c.args.parts.now c.area_now.new.parts c.requires.numbered c.requires.within c.area_now.ensures.alone c.follows_need.result c.follows_need.new.parts c.follows_need.ensures
