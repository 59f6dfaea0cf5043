-- A unit of a lawful machine that has no ticket takes an area, shared or exclusively.
use Rattle.std.proofs.Common.{◌≡◌, ◌≢◌, ◌⊎◌, ℕ, zero, suc, Bool, true, false, ◌||◌, eqb, eq-eqb, List, [], ◌∷◌, Some, slice_get, inl, inr, refl, sym, ◌∙◌, subst}
use Rattle.std.specs.List.{list_any}
use Rattle.std.proofs.lemmas.Bool.{or_parts}
use Rattle.dbtg_step.specs.Machine.SequentialDatabase.{SequentialDatabase, In, unit_at}
use Rattle.dbtg_step.specs.Inside.SequentialDatabase.{IsSequentialDatabase}
use Rattle.dbtg_step.specs.Machine.Machine.{StatementProgress, UnitState, State, SequentialState, held_cells, held_areas, holds_exclusively, ticket_of}
use Rattle.dbtg_step.specs.Machine.Step.{any_but, any_other, conflicts}
use Rattle.dbtg_step.specs.Machine.Lawful.{Holding, AreasShared, HoldsCell, Lawful}
use Rattle.dbtg_step.proofs.Public.{SafeUpdate, and_false, any_other_false, holder_has_cell, list_any_true}

any_none : {X : Type 0} (p : X → Bool) (xs : List X) → ((i : ℕ) (x : X) → slice_get xs i ≡ Some x → p x ≡ false) → list_any p xs ≡ false
any_none p [] h = refl
any_none p (x ∷ xs) h = or_both (p x) (list_any p xs) (h 0 x refl) (any_none p xs (λ i y e. h (suc i) y e))
  where
    or_both : (a b : Bool) → a ≡ false → b ≡ false → (a || b) ≡ false
    or_both true b e f = e
    or_both false b e f = f

but_none : {X : Type 0} (p : X → Bool) (u : ℕ) (xs : List X) → ((i : ℕ) (x : X) → i ≢ u → slice_get xs i ≡ Some x → p x ≡ false) → any_but p u xs ≡ false
unfolding any_but
but_none p u [] h = refl
but_none p zero (x ∷ xs) h = any_none p xs (λ i y e. h (suc i) y (λ q. cc (q)) e)
but_none p (suc u) (x ∷ xs) h = or_both (p x) (any_but p u xs) (h 0 x (λ q. cc (q)) refl) (but_none p u xs (λ i y n e. h (suc i) y (λ q. n (pred_same i u q)) e))
  where
    pred_same : (i u : ℕ) → suc i ≡ suc u → i ≡ u
    pred_same i u q = cc (q)

    or_both : (a b : Bool) → a ≡ false → b ≡ false → (a || b) ≡ false
    or_both true b e f = e
    or_both false b e f = f

-- no other unit passes
pub others_none : {X : Type 0} (p : X → Bool) (u : ℕ) (xs : List X) → ((i : ℕ) (x : X) → i ≢ u → slice_get xs i ≡ Some x → p x ≡ false) → any_other p (suc u) xs ≡ false
unfolding any_other
others_none p u xs h = but_none p u xs h

module _ (D : SequentialDatabase) (laws : IsSequentialDatabase D) (opening : SequentialState D) where
  abbrev pub latching : StatementProgress D → Bool → ℕ → StatementProgress D
  latching w x a = record { exclusive = x; areas = a ∷ w.areas; cells = w.cells; turning_back = w.turning_back; ticket = w.ticket; linked = w.linked }

  -- one area more. Whether areas are held exclusively may change where none is held
  pub latches_is_safe : (s : State D) (u : ℕ) (state : UnitState D) (w : StatementProgress D) (x : Bool) (a : ℕ) → Lawful D opening s → unit_at s.units u ≡ Some state → state.progress ≡ Some w → (w.areas ≡ []) ⊎ (w.exclusive ≡ x) → any_other (conflicts D x a) u s.units ≡ false →
      SafeUpdate D opening s u s.location (Some (latching w x a))
  unfolding held_cells held_areas ticket_of holds_exclusively conflicts
  latches_is_safe s u state w x a l at is how free =
      let old = subst (λ o. Holding D opening s.location s.history u o) is (l.each u state at).holding in
      record {
        holding = record { held = old.held; values = old.values; in_area = λ h i. inr (old.in_area h i); distinct = old.distinct; ticket = old.ticket; due = old.due };
        others = λ c w n e. e;
        back = λ c w n e. e;
        home = l.home;
        holder = λ c e. let h = subst (λ v. HoldsCell D v c) is (holder_has_cell D opening s l u state at c e) in record { which = h.which; is_in = h.is_in; name = h.name };
        share = λ o b n e y i j. elim i [
          | inl q ↦
              let f = any_other_false (conflicts D x a) u s.units o b free n e in
              let g = or_parts _ _ (and_false _ _ f (list_any_true (eqb a) (held_areas D b.progress) y j (eq-eqb a y (sym q)))) in
              (g.0, g.1)
          | inr k ↦ elim how [
            | inl none ↦ absurd (subst (λ ys. In y ys) none k)
            | inr same ↦ let g = (subst (λ v. AreasShared D v b.progress) is (l.apart u o state b (λ q. n (sym q)) at e)) y k j in (sym same ∙ g.0, g.1)
          ]
        ];
      }
