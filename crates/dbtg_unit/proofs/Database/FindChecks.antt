-- The checks of a FIND that need no cell: only four of them can apply.
use Rattle.std.proofs.Common.{◌≡◌, ℕ, Bool, true, false, cond, ◌&&◌, List, [], ◌∷◌, Option, Some, None, refl, sym, ap, ◌∙◌}
use Rattle.std.specs.Prelude.{is_none}
use Rattle.std.specs.List.{list_any}
use Rattle.dbtg_schema.specs.Lists.{Lists}
use Rattle.dbtg_schema.specs.Lookups.{at, first_cause, some_and}
use Rattle.dbtg_unit.specs.declared.statement.Form.{Form}
use Rattle.dbtg_unit.specs.declared.statement.Statement.TheVariants.{Find}
use Rattle.dbtg_unit.specs.declared.statement.Suppress.{Suppress}
use Rattle.dbtg_unit.specs.declared.unit.Cause.{Cause}
use Rattle.dbtg_unit.specs.declared.unit.Cause.TheVariants.{AreaNotOpen, NoCurrentOfRunUnit, NoSuchCurrent, NoneSatisfies, OtherRecordType}
use Rattle.dbtg_unit.specs.declared.unit.Unit.{Unit}
use Rattle.dbtg_unit.specs.Database.Statements.Checks.{current_type, find_areas, find_lacks_current, is_beyond, needs_current, refused_at_once}

never : {X : Type 0} (o : Option X) → some_and (λ (x : X). false) o ≡ false
never None = refl
never (Some x) = refl

-- the checks that can apply to a FIND, from the second on
abbrev other_checks : Lists → ℕ → Unit → Suppress → Form → List (Bool × Cause)
other_checks schema capacity unit suppress form =
    (find_lacks_current schema unit form, NoSuchCurrent)
    ∷ (list_any (λ a. is_none (at unit.modes a)) (find_areas schema unit form), AreaNotOpen)
    ∷ (is_beyond capacity (Find suppress form), NoneSatisfies)
    ∷ []

-- all of them
abbrev pub find_checks : Lists → ℕ → Unit → Suppress → Form → List (Bool × Cause)
find_checks schema capacity unit suppress form =
    (needs_current (Find suppress form) && is_none unit.currency.run_unit, NoCurrentOfRunUnit) ∷ other_checks schema capacity unit suppress form

-- a FIND is refused for the first of them
pub find_refused : (schema : Lists) (capacity : ℕ) (unit : Unit) (suppress : Suppress) (form : Form) → refused_at_once schema capacity unit (Find suppress form) ≡ first_cause (find_checks schema capacity unit suppress form)
find_refused schema capacity unit suppress form =
    ap (λ (b : Bool). cond (needs_current (Find suppress form) && is_none unit.currency.run_unit) (Some NoCurrentOfRunUnit) (cond b (Some OtherRecordType) (first_cause (other_checks schema capacity unit suppress form)))) (never (current_type unit))

-- the first of them refuses it
pub find_fails : (schema : Lists) (capacity : ℕ) (unit : Unit) (suppress : Suppress) (form : Form) → (needs_current (Find suppress form) && is_none unit.currency.run_unit) ≡ true → Some NoCurrentOfRunUnit ≡ refused_at_once schema capacity unit (Find suppress form)
find_fails schema capacity unit suppress form there =
    sym (find_refused schema capacity unit suppress form ∙ ap (λ (b : Bool). cond b (Some NoCurrentOfRunUnit) (first_cause (other_checks schema capacity unit suppress form))) there)

-- it passes the first three of them
pub find_passes : (schema : Lists) (capacity : ℕ) (unit : Unit) (suppress : Suppress) (form : Form) (b : Bool) → (needs_current (Find suppress form) && is_none unit.currency.run_unit) ≡ false → find_lacks_current schema unit form ≡ false
    → list_any (λ a. is_none (at unit.modes a)) (find_areas schema unit form) ≡ false → is_beyond capacity (Find suppress form) ≡ b → cond b (Some NoneSatisfies) None ≡ refused_at_once schema capacity unit (Find suppress form)
find_passes schema capacity unit suppress form b there current asked beyond =
    sym (find_refused schema capacity unit suppress form ∙ (λ i. cond (there i) (Some NoCurrentOfRunUnit) (cond (current i) (Some NoSuchCurrent) (cond (asked i) (Some AreaNotOpen) (cond (beyond i) (Some NoneSatisfies) None)))))
