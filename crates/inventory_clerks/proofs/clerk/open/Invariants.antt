use Rattle.std.proofs.Common.{take}
use Rattle.dbtg_run.specs.UnitView.{BelongsTo}
use Rattle.inventory_clerks.specs.Orders.{HasMade}
use Rattle.inventory_clerks.proofs.clerk.open.Given as goal

abbrev pub invariant-statements : goal.invariant-statements
invariant-statements g l = record {
  belongs : BelongsTo l.db l.unit;
  made : HasMade (take l.statement-index l.statement-items) l.initial.unit.journal l.unit.journal;
}
