use Rattle.std.proofs.Common.{◌≡◌, drop}
use Rattle.dbtg_run.specs.Running.{Ran}
use Rattle.dbtg_run.specs.UnitView.{BelongsTo}
use Rattle.dbtg_run.proofs.running.run_script.Given as goal

abbrev pub invariant-script : goal.invariant-script
invariant-script g l = record {
  belongs : BelongsTo l.db l.unit;
  ran : (r : Ran l.script l.fn.unit l.unit) × (r.left ≡ drop l.statement-index l.script);
}
