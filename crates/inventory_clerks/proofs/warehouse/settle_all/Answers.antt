use Rattle.inventory_clerks.proofs.Closing.{ok_or_stop}
use Rattle.inventory_clerks.proofs.warehouse.settle_all.Goals as goal
use Rattle.dbtg_run.specs.Settling.{IsSettled}

pub returns : goal.returns
returns c = ok_or_stop (IsSettled c.args.db c.args.units.items) _ _ _ _ c.settle.ensures.ok c.ok.ensures.value c.ok_or.ensures.value
