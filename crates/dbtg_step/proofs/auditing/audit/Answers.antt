use Rattle.std.proofs.Common.{List, ◌∙◌, ap, subst, sym}
use Rattle.std.proofs.lemmas.Bool.{false≢true}
use Rattle.std.specs.Prelude.{IfOk}
use Rattle.dbtg_unit.specs.declared.unit.Entry.{Entry}
use Rattle.dbtg_step.specs.Core.Audit.{IsAudited, MayBeHistory, entries_at}
use Rattle.dbtg_step.proofs.MadeWhole.Audits.{shows_so}
use Rattle.dbtg_step.proofs.auditing.audit.Goals as goal

pub audit_judged-requires-clause-may : goal.audit_judged-requires-clause-may
audit_judged-requires-clause-may c =
    subst (MayBeHistory c.args.schema.now c.args.units) (sym (ap entries_at c.as_slice.ensures.value ∙ c.in_ok-entries.ensures)) (c.may_be_history.ensures.0 c.if-not-may_be_history.false)

pub returns-then-not-may_be_history-clause-audited : goal.returns-then-not-may_be_history-clause-audited
returns-then-not-may_be_history-clause-audited c = λ h.
    false≢true (sym c.if-not-may_be_history.true ∙ c.may_be_history.ensures.1 (shows_so c.args.schema.now c.args.capacity c.args.units c.args.history.now h))

pub returns-clause-audited : goal.returns-clause-audited
returns-clause-audited c =
    subst (λ (h : List Entry). IfOk c.audit_judged.result (λ found. IsAudited c.args.schema.now c.args.capacity c.args.units h found)) (ap entries_at c.as_slice.ensures.value ∙ c.in_ok-entries.ensures) c.audit_judged.ensures
