use Rattle.std.proofs.Common.{◌≡◌, ℕ, ap, subst, sym, true}
use Rattle.std.specs.List.{list_all}
use Rattle.dbtg_step.specs.Core.Whole.{Making}
use Rattle.dbtg_trace.specs.Parts.{is_unit}
use Rattle.dbtg_trace.specs.declared.traced.Traced.{Traced}
use Rattle.dbtg_audit.proofs.Steps.{units_of_trace}
use Rattle.dbtg_audit.proofs.auditing.audit_trace.Goals as goal

pub make_up_to-requires-clause-units : goal.make_up_to-requires-clause-units
make_up_to-requires-clause-units c =
    let recorded = c.args.recorded in
    let all = sym (ap (λ (m : Making). m.units) c.in_ok-database.ensures.same) in
    subst (λ (n : ℕ). list_all (λ (t : Traced). is_unit n t.unit) recorded.traced ≡ true) all (units_of_trace recorded.units recorded.load recorded.traced c.requires.units)
