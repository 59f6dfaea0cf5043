use Rattle.std.proofs.Common.{◌≡◌, ◌∙◌, subst, length}
use Rattle.std.specs.Prelude.{IfOk}
use Rattle.dbtg_unit.specs.Database.State.Image.{image_of}
use Rattle.dbtg_unit.specs.Database.Laws.Replay.{opening_state, replay}
use Rattle.dbtg_step.specs.Core.Parts.{CoreParts}
use Rattle.dbtg_step.proofs.TheCore.CellsFound.{read_is}
use Rattle.dbtg_step.proofs.TheCore.NeedsShown.{ok_also}
use Rattle.dbtg_step.proofs.machine.Core.image.Goals as goal

pub returns : goal.returns
returns c =
    let inside = c.self.inside in
    subst (λ (v : CoreParts). IfOk c.read_image.result (λ image. image ≡ image_of v.schema v.capacity (replay v.schema v.capacity (opening_state v.schema (length v.runners)) v.history).database)) c.self.view_is
    (ok_also c.read_image.result _ _ (λ image e. e ∙ read_is inside.schema inside.capacity inside.parts c.self.invariant) c.read_image.ensures)
