use Rattle.std.proofs.Common.{ℕ}
use Rattle.std.specs.Prelude.{IfOk}
use Rattle.dbtg_schema.specs.Lists.{Lists}
use Rattle.dbtg_step.specs.Core.Audit.{IsAudited, MayBeHistory, entries_at}
use Rattle.dbtg_step.proofs.MadeWhole.Audits.{as_opened, of_opened}
use Rattle.dbtg_step.proofs.auditing.audit_judged.Goals as goal

pub audit_from-requires-clause-may : goal.audit_from-requires-clause-may
audit_from-requires-clause-may c =
    as_opened (λ (schema : Lists) (capacity units : ℕ). MayBeHistory schema units (entries_at c.args.history.now)) c.args.schema.now c.args.capacity c.args.units c.in_ok-database.database c.in_ok-database.ensures c.requires.may

pub audit_from-requires-clause-fresh : goal.audit_from-requires-clause-fresh
audit_from-requires-clause-fresh c = c.in_ok-database.ensures.stands

pub returns : goal.returns
returns c =
    of_opened (λ (schema : Lists) (capacity units : ℕ). IfOk c.audit_from.result (λ found. IsAudited schema capacity units (entries_at c.args.history.now) found)) c.args.schema.now c.args.capacity c.args.units c.in_ok-database.database c.in_ok-database.ensures c.audit_from.ensures
