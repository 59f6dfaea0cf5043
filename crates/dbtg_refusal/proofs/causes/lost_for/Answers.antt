use Rattle.std.proofs.Common.{◌∙◌, ap, sym}
use Rattle.dbtg_refusal.specs.Obstacles.{lost_for}
use Rattle.dbtg_refusal.specs.Inside.Imaged.{imaged}
use Rattle.dbtg_refusal.proofs.causes.lost_for.Goals as goal

pub returns-in-Find : goal.returns-in-Find
returns-in-Find c = c.lost_in_find.ensures c.in-Find.field-0 ∙ ap (lost_for c.args.schema.now (imaged c.args.schema.now c.args.image.now) c.args.unit.now) (sym c.in-Find.is)
