use Rattle.std.proofs.Common.{subst}
use Rattle.dbtg_step.specs.Core.CoreSteps.{IsQuitStep}
use Rattle.dbtg_step.specs.Core.Parts.{CoreParts, machine}
use Rattle.dbtg_step.specs.Inside.Parts.{core_of}
use Rattle.dbtg_step.proofs.TheCore.QuitShown.{core_quit, never_stuck_well, quit_well}
use Rattle.dbtg_step.proofs.machine.Core.quit.Goals as goal

pub invariant_of-self : goal.invariant_of-self
invariant_of-self c = quit_well c.self.inside.schema c.self.inside.capacity c.args.unit c.self.inside.parts c.quit.new.parts c.self.invariant c.quit.result c.quit.ensures

pub returns-clause-quit : goal.returns-clause-quit
returns-clause-quit c =
    subst (λ (v : CoreParts). IsQuitStep (machine v) c.args.unit c.quit.result (core_of c.self.inside.schema c.self.inside.capacity c.quit.new.parts)) c.self.view_is
    (core_quit c.self.inside.schema c.self.inside.capacity c.args.unit c.self.inside.parts c.quit.new.parts c.self.invariant c.quit.result c.quit.ensures)

pub returns-clause-never_stuck : goal.returns-clause-never_stuck
returns-clause-never_stuck c = never_stuck_well c.self.inside.schema c.self.inside.capacity c.quit.new.parts (quit_well c.self.inside.schema c.self.inside.capacity c.args.unit c.self.inside.parts c.quit.new.parts c.self.invariant c.quit.result c.quit.ensures)
