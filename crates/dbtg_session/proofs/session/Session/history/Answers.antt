use Rattle.std.proofs.Common.{subst}
use Rattle.dbtg_session.proofs.SessionSteps.{has_scripts}
use Rattle.dbtg_session.specs.Sessions.{HasScripts}
use Rattle.dbtg_session.proofs.session.Session.history.Goals as goal

pub returns-clause-scripts : goal.returns-clause-scripts
returns-clause-scripts c = subst HasScripts c.self.view_is (has_scripts c.self.inside.schema.now c.self.inside.capacity c.self.inside.database c.self.inside.scripts.items c.self.invariant)
