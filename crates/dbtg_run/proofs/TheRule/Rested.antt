-- Where no unit has begun a statement, each may be seen as holding nothing.
use Rattle.std.proofs.Common.{◌≡◌, ℕ, zero, suc, false, List, [], ◌∷◌, map, Some, None, slice_get, refl, ap, ◌∙◌, subst}
use Rattle.dbtg_step.specs.Machine.SequentialDatabase.{SequentialDatabase, unit_at}
use Rattle.dbtg_step.specs.Machine.Machine.{StatementProgress, UnitState, State, SequentialState, held_cells, held_areas, holds_exclusively, ticket_of}
use Rattle.dbtg_step.specs.Machine.Lawful.{UnitLawful, AreasShared, HoldsCell, Lawful, AreDistinct}

module _ (D : SequentialDatabase) (opening : SequentialState D) where
  abbrev pub resting : StatementProgress D
  resting = record { exclusive = false; areas = []; cells = []; turning_back = false; ticket = None; linked = 0 }

  abbrev pub rested : UnitState D → UnitState D
  rested state = record { unit = state.unit; guesses = state.guesses; script = state.script; remaining = state.remaining; progress = Some resting }

  record Was (units : List (UnitState D)) (u : ℕ) (b : UnitState D) : Type 0 where
    before : UnitState D
    found : unit_at units u ≡ Some before
    is : rested before ≡ b

  slice_was : (units : List (UnitState D)) (i : ℕ) (b : UnitState D) → slice_get (map rested units) i ≡ Some b → (a : UnitState D) × (slice_get units i ≡ Some a) × (rested a ≡ b)
  slice_was [] i b e = absurd (cc (e))
  slice_was (x ∷ xs) zero b e = (x, refl, (let h : rested x ≡ b = cc (e) in h))
  slice_was (x ∷ xs) (suc i) b e = slice_was xs i b e

  was : (units : List (UnitState D)) (u : ℕ) (b : UnitState D) → unit_at (map rested units) u ≡ Some b → Was units u b
  unfolding unit_at
  was units zero b e = absurd (cc (e))
  was units (suc i) b e = let t = slice_was units i b e in record { before = t.0; found = t.1; is = t.2 }

  same_units : (units : List (UnitState D)) → map (λ (x : UnitState D). x.unit) (map rested units) ≡ map (λ (x : UnitState D). x.unit) units
  same_units [] = refl
  same_units (x ∷ xs) = ap (λ us. x.unit ∷ us) (same_units xs)

  pub rested_keeps : (s : State D) → Lawful D opening s → ((u : ℕ) (state : UnitState D) → unit_at s.units u ≡ Some state → state.progress ≡ None) → Lawful D opening (record { location = s.location; history = s.history; counter = s.counter; units = map rested s.units })
  unfolding held_cells held_areas ticket_of holds_exclusively AreDistinct
  rested_keeps s l none = record {
    counter = l.counter;
    tickets = l.tickets;
    answers = l.answers;
    units = same_units s.units ∙ l.units;
    legal = l.legal;
    each = λ u b e. let w = was s.units u b e in subst (λ (x : UnitState D). UnitLawful D opening s.location s.history u x) w.is (record {
      script = (l.each u w.before w.found).script;
      fits = (l.each u w.before w.found).fits;
      holding = record { held = λ h i. absurd i; values = λ h i. absurd i; in_area = λ h i. absurd i; distinct = tt; ticket = λ t e. absurd (cc (e)); due = λ t e h i. absurd i };
    });
    apart = λ u o a b n ea eb. let w = was s.units u a ea in subst (λ (x : UnitState D). AreasShared D x.progress b.progress) w.is (λ y i. absurd i);
    home = l.home;
    holder = λ c u e. let h = l.holder c u e in let i = (subst (λ v. HoldsCell D v c) (none u h.state h.found) h.holds).is_in in absurd i;
  }
