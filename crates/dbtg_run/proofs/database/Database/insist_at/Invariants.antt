use Rattle.std.proofs.Common.{◌≡◌}
use Rattle.dbtg_run.specs.UnitView.{BelongsTo}
use Rattle.dbtg_run.proofs.database.Database.insist_at.Given as goal

abbrev pub invariant-tries : goal.invariant-tries
invariant-tries g l = BelongsTo l.self l.unit × (l.unit ≡ l.initial.unit)
