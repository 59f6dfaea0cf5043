-- The opening state is lawful.
use Rattle.std.proofs.Common.{ℕ, ◌≡◌, List, [], Option, Some, None, refl, sym, subst}
use Rattle.dbtg_step.specs.Machine.SequentialDatabase.{SequentialDatabase, unit_at}
use Rattle.dbtg_step.specs.Inside.SequentialDatabase.{IsSequentialDatabase}
use Rattle.dbtg_step.specs.Machine.Machine.{CellLocation, StatementProgress, UnitState, State, SequentialState, replay, AnswersHold, statements_of, held_areas}
use Rattle.dbtg_step.specs.Machine.Lawful.{Holding, UnitLawful, AreasShared, Lawful, IsOpening}
use Rattle.dbtg_step.proofs.EachEvent.Events.{holds_nothing}

module _ (D : SequentialDatabase) (laws : IsSequentialDatabase D) (opening : SequentialState D) where
  shared_none : (v w : Option (StatementProgress D)) → v ≡ None → AreasShared D v w
  unfolding held_areas
  shared_none v w e = rw e (λ a i j. absurd i)

  opening_unit_lawful : (s : State D) → IsOpening D opening s → (u : ℕ) (state : UnitState D) → unit_at s.units u ≡ Some state → UnitLawful D opening s.location [] u state
  unfolding statements_of
  opening_unit_lawful s b u state at =
      let i = b.idle u state at in
      record { script = i.1; fits = λ x j. b.fits u state x at j; holding = subst (λ w. Holding D opening s.location [] u w) (sym i.0) (holds_nothing D laws opening s.location [] u) }

  opening_lawful_of : (location : D.Cell → CellLocation D.Value) (units : List (UnitState D)) → IsOpening D opening (record { location = location; history = []; counter = 0; units = units }) → Lawful D opening (record { location = location; history = []; counter = 0; units = units })
  unfolding replay AnswersHold
  opening_lawful_of location units b = record {
    counter = refl;
    tickets = λ k e g. absurd (cc (g));
    answers = tt;
    units = b.units;
    legal = b.legal;
    each = λ u state at. opening_unit_lawful _ b u state at;
    apart = λ u w x y n ex ey. shared_none x.progress y.progress (b.idle u x ex).0;
    home = λ c v e. let h = b.location c in cc;
    holder = λ c u e. let h = b.location c in absurd (cc);
  }

  -- nothing has happened yet, so all is lawful
  pub opening_is_lawful : (s : State D) → IsOpening D opening s → Lawful D opening s
  opening_is_lawful s b =
      let e : s ≡ record { location = s.location; history = []; counter = 0; units = s.units } = λ i. record { location = s.location; history = b.history i; counter = b.counter i; units = s.units } in
      subst (Lawful D opening) (sym e) (opening_lawful_of s.location s.units (subst (IsOpening D opening) e b))
