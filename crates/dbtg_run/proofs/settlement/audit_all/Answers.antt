use Rattle.std.proofs.Common.{Bor, List, map, ap, ◌∙◌, subst}
use Rattle.dbtg_unit.specs.declared.unit.Entry.{Entry}
use Rattle.dbtg_step.specs.Core.Audit.{IsAudited}
use Rattle.dbtg_run.proofs.settlement.audit_all.Goals as goal

pub returns-clause-audited : goal.returns-clause-audited
returns-clause-audited c =
    let about = c.args.db.now.about in
    subst (λ (h : List Entry). IsAudited c.args.db.now.schema about.capacity about.units h c.in_ok-found.found)
    (ap (map (λ (e : Bor Entry). e.now)) c.as_slice.ensures.value ∙ c.in_ok-history.ensures) c.in_ok-found.ensures.audited
