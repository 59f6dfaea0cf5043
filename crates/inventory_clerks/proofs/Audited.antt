-- The text of what an audit found is the text of what was left, if the two texts are equal.
use Rattle.std.proofs.Common.{◌≡◌, ℕ, List, Option, Some, None, ◌∙◌, subst}
use Rattle.std.specs.Prelude.{IfNone, IfOk, IfSome, MatchOption, Result, Ok, Err}
use Rattle.dbtg_schema.specs.Lists.{Lists}
use Rattle.dbtg_unit.specs.Database.Laws.Replay.{IsHistoryOf}
use Rattle.dbtg_unit.specs.declared.unit.Entry.{Entry}
use Rattle.dbtg_unit.specs.declared.unit.Unit.{Unit}
use Rattle.dbtg_unit.specs.Database.State.Image.{Image}
use Rattle.dbtg_step.specs.Core.Audit.{IsAudited}
use Rattle.inventory_clerks.specs.Inside.Auditing.{IsTextOf, text_of}

pub found_is_left : {V : Type 0} (items : V → List ℕ) (schema : Lists) (capacity units : ℕ) (history : List Entry) (found : Option V) (text left : List ℕ)
    → MatchOption found (IsHistoryOf schema capacity units history → ⊥) (λ out. IsTextOf schema capacity units history (items out))
    → IfNone found ⊥ × IfSome found (λ out. items out ≡ text) → text ≡ left → IsTextOf schema capacity units history left
found_is_left items schema capacity units history (Some out) text left audited is same = subst (IsTextOf schema capacity units history) (is.1 ∙ same) audited
found_is_left items schema capacity units history None text left audited is same = absurd is.0

-- the text of what an audit found, or none
pub text_is_audited : {V E : Type 0} (items : V → List ℕ) (schema : Lists) (capacity units : ℕ) (history : List Entry) (found : Option (Image × List Unit))
    (r : Result (Option V) E) → IsAudited schema capacity units history found
    → IfOk r (λ out. MatchOption out (found ≡ None) (λ o. IfNone found ⊥ × IfSome found (λ t. items o ≡ text_of schema t.0 t.1)))
    → IfOk r (λ out. MatchOption out (IsHistoryOf schema capacity units history → ⊥) (λ o. IsTextOf schema capacity units history (items o)))
text_is_audited items schema capacity units history (Some t) (Ok (Some o)) audited p = record { image = t.0; after = t.1; leads = audited; text_is = p.1 }
text_is_audited items schema capacity units history None (Ok (Some o)) audited p = absurd p.0
text_is_audited items schema capacity units history found (Ok None) audited p = subst (IsAudited schema capacity units history) p audited
text_is_audited items schema capacity units history found (Err e) audited p = tt
