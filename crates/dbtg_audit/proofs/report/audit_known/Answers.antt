use Rattle.std.proofs.Common.{refl}
use Rattle.dbtg_audit.proofs.report.audit_known.Goals as goal

pub returns-clause-done : goal.returns-clause-done
returns-clause-done g c = (
  record {
    lists = c.args.known.now;
    schema = c.requires.read;
    recorded = record { units = c.args.options.units; load = c.in_ok-load.load; traced = c.in_ok-read_trace.field-0.items };
    units_are = refl;
    trace = c.in_ok-read_trace.ensures.read;
    load = c.in_ok-load.ensures.read;
  },
  rw c.of-traced.ensures at c.in_ok-verdict_on.ensures,
)
