use Rattle.std.proofs.Common.{subst}
use Rattle.dbtg_step.specs.Core.CoreSteps.{IsStep}
use Rattle.dbtg_step.specs.Core.Parts.{CoreParts, machine}
use Rattle.dbtg_step.specs.Inside.Parts.{core_of}
use Rattle.dbtg_step.proofs.TheCore.QuitShown.{core_stepped, never_stuck_well, stepped_well}
use Rattle.dbtg_step.proofs.machine.Core.step.Goals as goal

pub invariant_of-self : goal.invariant_of-self
invariant_of-self c = stepped_well c.self.inside.schema c.self.inside.capacity c.args.unit c.self.inside.parts c.step.new.parts c.self.invariant c.step.result c.step.ensures

pub returns-clause-step : goal.returns-clause-step
returns-clause-step c =
    subst (λ (v : CoreParts). IsStep (machine v) c.args.unit c.step.result (core_of c.self.inside.schema c.self.inside.capacity c.step.new.parts)) c.self.view_is
    (core_stepped c.self.inside.schema c.self.inside.capacity c.args.unit c.self.inside.parts c.step.new.parts c.self.invariant c.step.result c.step.ensures)

pub returns-clause-never_stuck : goal.returns-clause-never_stuck
returns-clause-never_stuck c = never_stuck_well c.self.inside.schema c.self.inside.capacity c.step.new.parts (stepped_well c.self.inside.schema c.self.inside.capacity c.args.unit c.self.inside.parts c.step.new.parts c.self.invariant c.step.result c.step.ensures)
