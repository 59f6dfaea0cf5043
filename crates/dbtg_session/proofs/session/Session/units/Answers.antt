use Rattle.std.proofs.Common.{arith}
use Rattle.dbtg_session.proofs.SessionSteps.{few_units}
use Rattle.dbtg_session.proofs.session.Session.units.Goals as goal

pub returns-clause-few : goal.returns-clause-few
returns-clause-few c = omega (arith, c.units.ensures.count, few_units c.self.inside.database.units c.self.invariant.counted)
