use Rattle.dbtg_step.proofs.needing.need_event.Goals as goal

pub take_cell_event-requires-clause-needs : goal.take_cell_event-requires-clause-needs
take_cell_event-requires-clause-needs c = rw c.in-Take.is at c.requires.needs

pub note_owners_event-requires-clause-needs : goal.note_owners_event-requires-clause-needs
note_owners_event-requires-clause-needs c = rw c.in-Stale.is at c.requires.needs

pub ticket_event-requires-clause-needs : goal.ticket_event-requires-clause-needs
ticket_event-requires-clause-needs c = rw c.in-Ready.is at c.requires.needs

pub returns-in-Area : goal.returns-in-Area
returns-in-Area c = c.take_area_event.ensures c.args.schema.now c.args.capacity c.requires.well (rw c.in-Area.is at c.requires.needs)
