use Rattle.inventory_clerks.proofs.Filling.{begins_on, filled_if}
use Rattle.inventory_clerks.proofs.clerk.try_to_fill.Goals as goal

pub returns-in_err-stock-clause-grown : goal.returns-in_err-stock-clause-grown
returns-in_err-stock-clause-grown g c = begins_on _ _ _ c.keep.ensures.grown c.read_stock.ensures.grown

pub returns-clause-filled : goal.returns-clause-filled
returns-clause-filled g c =
    filled_if c.args.order _ _ _ _ _ _ _ c.in_ok-finding.ensures c.in_ok-keep.ensures.kept c.in_ok-stock.ensures.read c.write_stock.ensures.written

pub returns-clause-grown : goal.returns-clause-grown
returns-clause-grown g c = begins_on _ _ _ (begins_on _ _ _ c.keep.ensures.grown c.read_stock.ensures.grown) c.write_stock.ensures.grown
