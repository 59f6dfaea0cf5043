use Rattle.std.proofs.Common.{◌≡◌, ◌∙◌, length, sym, subst}
use Rattle.std.specs.Prelude.{IfOk}
use Rattle.std.proofs.lemmas.Result.{IfOk-weaker}
use Rattle.dbtg_unit.specs.Database.State.Image.{image_of}
use Rattle.dbtg_unit.specs.Database.Laws.Replay.{opening_state, replay}
use Rattle.dbtg_step.specs.Core.Parts.{CoreParts}
use Rattle.dbtg_step.specs.Core.Runs.{IsHandedOut}
use Rattle.dbtg_step.proofs.machine.Core.into_run.Goals as goal

pub returns : goal.returns
returns c =
    let image_is = subst (λ (v : CoreParts). c.in_ok-image.image ≡ image_of v.schema v.capacity (replay v.schema v.capacity (opening_state v.schema (length v.runners)) v.history).database) (sym c.self.view_is) c.in_ok-image.ensures in
    subst (λ (v : CoreParts). IfOk c.run_of.result (λ given. IsHandedOut v c.args.results.items given)) c.self.view_is
    (IfOk-weaker c.run_of.result _ _ (λ given is. record { results_are = is.0; history_is = is.2; image_is = is.1 ∙ image_is; units_are = is.3 }) c.run_of.ensures)
