use Rattle.std.proofs.Common.{◌∙◌}
use Rattle.dbtg_erase.specs.WorkList.{gone_in}
use Rattle.dbtg_erase.proofs.ErasePlan.{plan_from}
use Rattle.dbtg_erase.proofs.preparing.erasing.Goals as goal

pub returns : goal.returns
returns c =
    c.erasing.ensures
    ∙ plan_from c.args.schema.now c.args.held.now c.args.key.now (gone_in c.args.schema.now c.args.capacity c.args.held.now c.args.option c.args.key.now) _ _ _ _
    c.in_ok-gone.ensures c.in_ok-erased.ensures c.in_ok-cells.ensures.cells c.in_ok-cells.ensures.versions
