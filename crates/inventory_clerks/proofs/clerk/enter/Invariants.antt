use Rattle.std.proofs.Common.{◌≡◌}
use Rattle.dbtg_run.specs.UnitView.{BelongsTo}
use Rattle.inventory_clerks.proofs.clerk.enter.Given as goal

abbrev pub invariant-tries : goal.invariant-tries
invariant-tries g l = BelongsTo l.db l.unit × (l.unit ≡ l.initial.unit)
