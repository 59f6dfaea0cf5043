use Rattle.dbtg_step.proofs.stepping.end_event.Goals as goal

pub returns-then-progress-count : goal.returns-then-progress-count
returns-then-progress-count c = c.link_event.ensures c.args.schema.now c.args.capacity c.requires.well

pub returns-then-count-gt0 : goal.returns-then-count-gt0
returns-then-count-gt0 c = c.give_cell_event.ensures

pub returns-else-count-gt0 : goal.returns-else-count-gt0
returns-else-count-gt0 c = c.leave_area_event.ensures c.args.schema.now c.args.capacity c.requires.well
