use Rattle.std.proofs.Common.{◌∙◌, sym}
use Rattle.std.proofs.lemmas.Bool.{false≢true}
use Rattle.dbtg_step.specs.Core.Audit.{entries_at}
use Rattle.dbtg_step.proofs.MadeWhole.Audits.{shows_so}
use Rattle.dbtg_step.proofs.auditing.audit_each.Goals as goal

pub returns-then-not-each_may_stand-clause-audited : goal.returns-then-not-each_may_stand-clause-audited
returns-then-not-each_may_stand-clause-audited c = λ h.
    false≢true (sym c.if-not-each_may_stand.true ∙ c.each_may_stand.ensures.1 (shows_so c.args.schema.now c.args.capacity c.args.units (entries_at c.args.history.now) h))
