use Rattle.dbtg_run.specs.UnitView.{BelongsTo}
use Rattle.inventory_clerks.specs.Orders.{Begins}
use Rattle.inventory_clerks.proofs.clerk.fill.Given as goal

abbrev pub invariant-again : goal.invariant-again
invariant-again g l = record {
  belongs : BelongsTo l.db l.unit;
  grown : Begins l.initial.unit.journal l.unit.journal;
}
