-- The effect of a statement keeps a legal database legal with all its units, and no two of them conflict.
use Rattle.std.proofs.Common.{◌≡◌, refl, sym, ◌∙◌, ap, subst, ℕ, zero, suc, ◌<◌, Bool, true, false, cond, not, ◌&&◌, ◌||◌, List, [], ◌∷◌, length, Some, inl, inr, eqb, ltb, leb, arith, length-set}
use Rattle.std.specs.Prelude.{slice_get, slice_set}
use Rattle.std.specs.List.{list_all}
use Rattle.std.proofs.lemmas.Bool.{and_from, and_parts, cases_Bool, cases_eq, eqb-true, ne_eqb, not-true, lt-ltb, le-leb}
use Rattle.std.proofs.lemmas.Option.{slice_get_within}
use Rattle.dbtg_schema.specs.Lists.{Lists}
use Rattle.dbtg_cells.specs.declared.usage.Mode.{Mode}
use Rattle.dbtg_cells.proofs.Public.{get_set_same}
use Rattle.dbtg_unit.specs.declared.unit.Unit.{Unit}
use Rattle.dbtg_unit.specs.Database.State.Base.{Database}
use Rattle.dbtg_unit.specs.Database.Statements.Checks.{is_update}
use Rattle.dbtg_unit.specs.Database.Statements.Effect.{StatementEffect, conflict, effect, is_exclusive, is_protected}
use Rattle.dbtg_unit.specs.Database.State.Legal.{agree, mode_in, pairwise}
use Rattle.dbtg_unit.specs.Database.State.LegalWith.{IsUnitIn, LegalWith}
use Rattle.dbtg_unit.specs.Database.Laws.StaysLegal.{EffectKeepsLegal, LegalAfter, UnitsNeverConflict}
use Rattle.dbtg_unit.proofs.Database.Legal.LegalEffect.{IsStep, effect_step}
use Rattle.dbtg_unit.proofs.Database.Records.SortKeysCompare.{none_some}

get_set_other : {X : Type 0} (xs : List X) (i j : ℕ) (x : X) → (j ≡ i → ⊥) → slice_get (slice_set xs i x) j ≡ slice_get xs j
get_set_other [] i j x other = refl
get_set_other (y ∷ ys) zero zero x other = absurd (other refl)
get_set_other (y ∷ ys) zero (suc j) x other = refl
get_set_other (y ∷ ys) (suc i) zero x other = refl
get_set_other (y ∷ ys) (suc i) (suc j) x other = get_set_other ys i j x (λ e. other (ap suc e))

-- a step of one unit, in the list of all
legal_after : (schema : Lists) (capacity : ℕ) (db : Database) (units : List Unit) (i : ℕ) (unit : Unit) (outcome : StatementEffect) → LegalWith schema capacity db units → slice_get units i ≡ Some unit
    → IsStep schema capacity db (suc i) outcome.database outcome.unit → LegalAfter schema capacity units i outcome
legal_after schema capacity db units i unit outcome with_units is step =
    record {
      legal = step.legal;
      each = λ j v h. elim (cases_eq j i) [
        | inl same ↦
            let own : Some outcome.unit ≡ Some v = sym (get_set_same units i outcome.unit low) ∙ ap (slice_get (slice_set units i outcome.unit)) (sym same) ∙ h in
            let v_is : outcome.unit ≡ v = cc in
            subst (λ n. IsUnitIn schema capacity outcome.database (suc n) v) (sym same) (subst (IsUnitIn schema capacity outcome.database (suc i)) v_is step.unit_in)
        | inr other ↦ as_it_was j v other (with_units.each j v (sym (get_set_other units i j outcome.unit other) ∙ h))
      ];
      users = λ a. subst (λ n. list_all (λ e. ltb 0 e.0 && leb e.0 n) (outcome.database.usage a) ≡ true) (sym (length-set units i outcome.unit))
          (step.users (λ n. ltb 0 n && leb n (length units)) (and_from _ _ (lt-ltb 0 (suc i) (omega arith)) (le-leb (suc i) (length units) low)) a (with_units.users a));
    } where
      low : i < length units
      low = slice_get_within units i unit is

      -- another unit has the entries that it had
      as_it_was : (j : ℕ) (v : Unit) → (j ≡ i → ⊥) → IsUnitIn schema capacity db (suc j) v → IsUnitIn schema capacity outcome.database (suc j) v
      as_it_was j v other old =
          record {
            number_is = old.number_is;
            of_schema = old.of_schema;
            within = old.within;
            usage = λ a. step.others v.number (λ e. other (same_suc (sym old.number_is ∙ e))) a ∙ old.usage a;
          } where
            same_suc : suc j ≡ suc i → j ≡ i
            same_suc e = omega arith

pub effect_keeps_legal : EffectKeepsLegal
effect_keeps_legal schema capacity db units i unit statement schema_is with_units is fit =
    legal_after schema capacity db units i unit (effect schema capacity db unit statement) with_units is
    (effect_step schema capacity db unit (suc i) schema_is with_units.legal (with_units.each i unit is) statement fit)

-- NO CONFLICT

mutual_conflict : (m n : Mode) → conflict m n ≡ conflict n m
mutual_conflict m n = both (is_exclusive m) (is_exclusive n) (is_protected m && is_update n) (is_protected n && is_update m) where
  both : (a b c d : Bool) → (a || b || c || d) ≡ (b || a || d || c)
  both true true c d = refl
  both true false c d = refl
  both false true c d = refl
  both false false true true = refl
  both false false true false = refl
  both false false false true = refl
  both false false false false = refl

-- the mode of a unit is that of one of the entries
mode_agrees : (es : List (ℕ × Mode)) (e : ℕ × Mode) (number : ℕ) (m : Mode) → list_all (agree e) es ≡ true → mode_in es number ≡ Some m → conflict e.1 m ≡ false
mode_agrees [] e number m h is = absurd (none_some is)
mode_agrees (f ∷ es) e number m h is =
    let hs = and_parts (agree e f) (list_all (agree e) es) h in
    elim (cases_Bool (eqb f.0 number)) [
      | inl own ↦
          let same : Some f.1 ≡ Some m = ap (λ b. cond b (Some f.1) (mode_in es number)) (sym own) ∙ is in
          let mode_is : f.1 ≡ m = cc in
          ap (conflict e.1) (sym mode_is) ∙ not-true _ (and_parts (not (eqb e.0 f.0)) (not (conflict e.1 f.1)) hs.0).1
      | inr other ↦ mode_agrees es e number m hs.1 (ap (λ b. cond b (Some f.1) (mode_in es number)) (sym other) ∙ is)
    ]

modes_agree : (es : List (ℕ × Mode)) (p q : ℕ) (m n : Mode) → (p ≡ q → ⊥) → pairwise agree es ≡ true → mode_in es p ≡ Some m → mode_in es q ≡ Some n → conflict m n ≡ false
modes_agree [] p q m n apart h first second = absurd (none_some first)
modes_agree (e ∷ es) p q m n apart h first second =
    let hs = and_parts (list_all (agree e) es) (pairwise agree es) h in
    elim (cases_Bool (eqb e.0 p)) [
      | inl own ↦
          let same : Some e.1 ≡ Some m = ap (λ b. cond b (Some e.1) (mode_in es p)) (sym own) ∙ first in
          let mode_is : e.1 ≡ m = cc in
          let rest : mode_in es q ≡ Some n = ap (λ b. cond b (Some e.1) (mode_in es q)) (sym (ne_eqb e.0 q (λ s. apart (sym (eqb-true e.0 p own) ∙ s)))) ∙ second in
          ap (λ (x : Mode). conflict x n) (sym mode_is) ∙ mode_agrees es e q n hs.0 rest
      | inr other ↦
          let rest : mode_in es p ≡ Some m = ap (λ b. cond b (Some e.1) (mode_in es p)) (sym other) ∙ first in
          elim (cases_Bool (eqb e.0 q)) [
            | inl own ↦
                let same : Some e.1 ≡ Some n = ap (λ b. cond b (Some e.1) (mode_in es q)) (sym own) ∙ second in
                let mode_is : e.1 ≡ n = cc in
                mutual_conflict m n ∙ ap (λ (x : Mode). conflict x m) (sym mode_is) ∙ mode_agrees es e p m hs.0 rest
            | inr other2 ↦ modes_agree es p q m n apart hs.1 rest (ap (λ b. cond b (Some e.1) (mode_in es q)) (sym other2) ∙ second)
          ]
    ]

pub units_never_conflict : UnitsNeverConflict
units_never_conflict schema capacity db units i j one other a m n with_units is_one is_other apart m_is n_is =
    let u = with_units.each i one is_one in
    let v = with_units.each j other is_other in
    modes_agree (db.usage a) (suc i) (suc j) m n (λ e. apart (same e)) (with_units.legal.usage a)
    (ap (mode_in (db.usage a)) (sym u.number_is) ∙ u.usage a ∙ m_is)
    (ap (mode_in (db.usage a)) (sym v.number_is) ∙ v.usage a ∙ n_is) where
      same : suc i ≡ suc j → i ≡ j
      same e = omega arith
