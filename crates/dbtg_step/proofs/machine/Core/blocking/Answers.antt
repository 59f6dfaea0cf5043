use Rattle.std.proofs.Common.{◌≡◌, subst}
use Rattle.std.specs.Prelude.{IfOk}
use Rattle.dbtg_step.specs.Core.Parts.{CoreParts, machine}
use Rattle.dbtg_step.specs.Core.Waiting.{TellsOfBlocked, blocking_of}
use Rattle.dbtg_step.proofs.machine.Core.blocking.Goals as goal

pub returns-clause-found : goal.returns-clause-found
returns-clause-found c = subst (λ (v : CoreParts). IfOk c.blocking_of.result (λ found. found ≡ blocking_of (machine v) c.args.unit)) c.self.view_is c.blocking_of.ensures.found

pub returns-clause-blocked : goal.returns-clause-blocked
returns-clause-blocked c = subst (λ (v : CoreParts). IfOk c.blocking_of.result (TellsOfBlocked (machine v) c.args.unit)) c.self.view_is c.blocking_of.ensures.blocked
