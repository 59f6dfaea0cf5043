use Rattle.std.proofs.Common.{◌∙◌, ap, sym}
use Rattle.dbtg_refusal.specs.Obstacles.{searched}
use Rattle.dbtg_refusal.proofs.finding.searched.Goals as goal

pub returns-in-Find : goal.returns-in-Find
returns-in-Find c = c.searched_by.ensures c.in-Find.field-0 ∙ ap (searched c.args.schema.now c.args.unit.now) (sym c.in-Find.is)
