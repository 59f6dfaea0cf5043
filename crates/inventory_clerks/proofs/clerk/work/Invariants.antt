use Rattle.std.proofs.Common.{take}
use Rattle.dbtg_run.specs.UnitView.{BelongsTo}
use Rattle.inventory_clerks.specs.Orders.{AreFilled}
use Rattle.inventory_clerks.proofs.clerk.work.Given as goal

abbrev pub invariant-orders : goal.invariant-orders
invariant-orders g l = record {
  belongs : BelongsTo l.db l.unit;
  filled : AreFilled l.initial.unit.journal l.unit.journal (take l.order-index l.orders);
}
