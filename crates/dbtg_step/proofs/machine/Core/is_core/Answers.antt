use Rattle.std.proofs.Common.{subst}
use Rattle.dbtg_step.specs.Core.Core.{IsCore}
use Rattle.dbtg_step.proofs.TheCore.CoreShown.{core_is}
use Rattle.dbtg_step.proofs.machine.Core.is_core.Goals as goal

pub returns : goal.returns
returns c = subst IsCore c.self.view_is (core_is c.self.inside.schema c.self.inside.capacity c.self.inside.parts c.self.invariant)
