use Rattle.std.proofs.Common.{subst}
use Rattle.dbtg_audit.specs.Auditing.{IsAudited}
use Rattle.dbtg_audit.proofs.report.verdict_of.Goals as goal

pub returns-in_ok-told-in-Differs : goal.returns-in_ok-told-in-Differs
returns-in_ok-told-in-Differs c = λ statuses capacity recorded h.
    let is = subst (IsAudited statuses c.args.schema.now capacity recorded) c.in-Differs.is h in
    let told = c.in_ok-told-in-Differs.ensures is.0.past is.0.entry is.0.history_is in
    record { found = c.in-Differs.found; first = is.0; unequal = is.1; is_text = told.0; status_is = told.1 }
