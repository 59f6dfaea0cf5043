use Rattle.inventory_clerks.proofs.Filling.{all_filled, filled_more, none_filled}
use Rattle.inventory_clerks.proofs.clerk.work.Goals as goal

pub orders-init : goal.orders-init
orders-init g c = record { belongs = c.requires.belongs; filled = none_filled c.args.unit.journal }

pub orders-preserved : goal.orders-preserved
orders-preserved g c = record {
  belongs = c.fill.ensures.belongs;
  filled = filled_more c.args.unit.journal c.orders.unit.journal c.fill.new.unit.journal c.args.orders.now c.orders.order-index _ c.orders-test.true c.orders.invariant.filled c.in_default.ensures.filled;
}

pub returns-clause-filled : goal.returns-clause-filled
returns-clause-filled g c = all_filled c.args.unit.journal c.orders.unit.journal c.args.orders.now c.orders.order-index c.orders-test.false c.orders.invariant.filled
