use Rattle.dbtg_erase.proofs.next.next_on_course.Goals as goal

pub next-requires : goal.next-requires
next-requires c = c.in_ok-going.ensures.course c.args.schema.now c.args.capacity c.args.held.now c.args.option c.requires.kept
