use Rattle.std.proofs.Common.{◌≡◌, ◌∙◌, subst}
use Rattle.std.specs.Prelude.{IfOk}
use Rattle.std.proofs.lemmas.Result.{IfOk-weaker}
use Rattle.dbtg_unit.specs.Database.State.Image.{image_of}
use Rattle.dbtg_step.specs.Core.Whole.{Making, state_now}
use Rattle.dbtg_step.proofs.MadeWhole.Wholes.{whole_image}
use Rattle.dbtg_step.proofs.whole.WholeDatabase.image.Goals as goal

pub returns : goal.returns
returns c =
    subst (λ (m : Making). IfOk c.read_image.result (λ image. image ≡ image_of m.schema m.capacity (state_now m).database)) c.self.view_is
    (IfOk-weaker c.read_image.result _ _ (λ image e. e ∙ whole_image c.self.inside.schema.now c.self.inside.capacity c.self.inside.held c.self.inside.units.items c.self.inside.history.items c.self.invariant) c.read_image.ensures)
