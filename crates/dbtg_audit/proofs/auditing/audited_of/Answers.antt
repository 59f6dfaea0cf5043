use Rattle.std.proofs.Common.{ℕ, List, Option, subst, sym}
use Rattle.dbtg_unit.specs.declared.unit.Entry.{Entry}
use Rattle.dbtg_trace.specs.declared.traced.Said.{Said}
use Rattle.dbtg_audit.specs.Auditing.{IsFirstDifference}
use Rattle.dbtg_audit.specs.Inside.Audits.{HasMadeUpTo}
use Rattle.dbtg_audit.proofs.Steps.{differs_first, equal, unequal}
use Rattle.dbtg_audit.proofs.auditing.audited_of.Goals as goal

pub returns-in-Some : goal.returns-in-Some
returns-in-Some c = λ statuses old recorded loaded h.
    let run = c.in_ok-run.run' in
    let line = c.in-Some.line in
    let said = c.in-Some.said in
    let other = subst (λ (found : Option (ℕ × Said)). HasMadeUpTo statuses old recorded.traced found c.args.database) c.in-Some.is h in (
      subst (λ (es : List Entry). IsFirstDifference statuses old.schema old.capacity recorded (record { line = line; said = said; history = es })) (sym c.into_history.ensures)
          (differs_first statuses old c.args.database recorded loaded run c.in_ok-run.ensures line said other),
      unequal statuses old c.args.database recorded loaded run c.in_ok-run.ensures line said other,
    )

pub returns-in-None : goal.returns-in-None
returns-in-None c = λ statuses old recorded loaded h.
    equal statuses old c.args.database recorded loaded c.in_ok-run.run' c.in_ok-run.ensures (subst (λ (found : Option (ℕ × Said)). HasMadeUpTo statuses old recorded.traced found c.args.database) c.in-None.is h)
