use Rattle.std.proofs.Common.{◌∙◌, ap, sym}
use Rattle.dbtg_step.specs.Core.Parts.{machine}
use Rattle.dbtg_step.specs.Core.CoreSteps.{after_move, result_of_move}
use Rattle.dbtg_step.proofs.TheCore.RunsShown.{quit_made, step_made}
use Rattle.dbtg_step.proofs.running.make_move.Goals as goal
use Rattle.dbtg_step.proofs.running.make_move.Goals.{in-Step, in-Quit}

pub returns-in_default : goal.returns-in_default
returns-in_default c =
    let old = machine c.args.core.now in
    elim c.match-one.branch [
      | in-Step w ↦
          let m = step_made old (machine w.step-stepped.new.self) _ w.step-stepped.result w.step-stepped.ensures.step (λ e. c.in_default.not-NoMemory (w.stepped-is ∙ e)) in
          record { core = ap machine w.core-is ∙ (m.core_is ∙ ap (after_move old) (sym w.in-Step.is)); result = w.stepped-is ∙ (m.result_is ∙ ap (result_of_move old) (sym w.in-Step.is)); unchanged = tt }
      | in-Quit w ↦
          let m = quit_made old (machine w.quit-stepped.new.self) _ w.quit-stepped.result w.quit-stepped.ensures.quit in
          record { core = ap machine w.core-is ∙ (m.core_is ∙ ap (after_move old) (sym w.in-Quit.is)); result = w.stepped-is ∙ (m.result_is ∙ ap (result_of_move old) (sym w.in-Quit.is)); unchanged = tt }
    ]
