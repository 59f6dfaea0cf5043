use Rattle.std.proofs.Common.{sym, subst}
use Rattle.dbtg_step.specs.Machine.Network.{network}
use Rattle.dbtg_step.specs.Core.Parts.{CoreParts, machine}
use Rattle.dbtg_step.specs.Core.Turns.{AllBetween}
use Rattle.dbtg_step.proofs.machine.Core.take_turns.Goals as goal

pub take_turns-requires-clause-between : goal.take_turns-requires-clause-between
take_turns-requires-clause-between c = subst (λ (v : CoreParts). AllBetween (network (machine v).schema (machine v).capacity) (machine v).state) (sym c.self.view_is) c.requires
