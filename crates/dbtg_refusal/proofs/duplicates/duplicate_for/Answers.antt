use Rattle.std.proofs.Common.{sym, ◌∙◌, ap}
use Rattle.dbtg_unit.specs.declared.statement.Statement.TheVariants.{Store}
use Rattle.dbtg_refusal.specs.Inside.Imaged.{holder_in_image, imaged}
use Rattle.dbtg_refusal.specs.Obstacles.{duplicate_for}
use Rattle.dbtg_refusal.proofs.duplicates.duplicate_for.Goals as goal

pub returns-in-Store : goal.returns-in-Store
returns-in-Store c =
    let said = duplicate_for c.args.schema.now (imaged c.args.schema.now c.args.image.now) (holder_in_image c.args.schema.now c.args.image.now) c.args.unit.now in
    c.in_storing.ensures c.in-Store.suppress
    ∙ ap (λ values. said (Store c.in-Store.rtype values c.in-Store.suppress)) (c.as_slice.ensures ∙ c.get.ensures)
    ∙ ap said (sym c.in-Store.is)
