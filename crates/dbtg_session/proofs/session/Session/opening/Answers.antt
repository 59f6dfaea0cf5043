use Rattle.dbtg_session.proofs.SessionSteps.{opening_session}
use Rattle.dbtg_session.proofs.session.Session.opening.Goals as goal

pub invariant_of-result : goal.invariant_of-result
invariant_of-result c =
    opening_session c.args.schema.now c.in_ok-opening.field-0 c.in_ok-scripts.scripts.items c.args.capacity c.args.units c.requires.sound c.in_ok-opening.ensures c.requires.counted c.in_ok-scripts.ensures.many c.in_ok-scripts.ensures.texts
    c.in_ok-scripts.ensures.begins
