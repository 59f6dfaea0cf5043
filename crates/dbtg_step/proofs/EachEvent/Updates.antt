-- An event that draws no ticket keeps a state lawful, where it is a safe update.
use Rattle.std.proofs.Common.{ℕ, ◌≡◌, ◌≢◌, List, Option, Some, inl, inr, refl, sym, ◌∙◌, subst}
use Rattle.std.proofs.lemmas.Bool.Decides.{eqb_tells}
use Rattle.dbtg_step.specs.Machine.SequentialDatabase.{SequentialDatabase, unit_at, with_unit_at}
use Rattle.dbtg_step.specs.Machine.Machine.{CellLocation, Home, HeldBy, StatementProgress, UnitState, HistoryEntry, State, SequentialState, replay}
use Rattle.dbtg_step.specs.Machine.Step.{updated}
use Rattle.dbtg_step.specs.Machine.Lawful.{Holding, UnitLawful, AreasShared, HoldsCell, IsHolder, Lawful}
use Rattle.dbtg_step.proofs.EachEvent.UnitLists.{set_found, set_at, set_elsewhere, map_set_same}

module _ (D : SequentialDatabase) (opening : SequentialState D) where
  pub record SafeUpdate (s : State D) (u : ℕ) (location : D.Cell → CellLocation D.Value) (progress : Option (StatementProgress D)) : Type 0 where
    pub holding : Holding D opening location s.history u progress
    pub others : (c : D.Cell) (w : ℕ) → w ≢ u → s.location c ≡ HeldBy w → location c ≡ HeldBy w
    pub back : (c : D.Cell) (w : ℕ) → w ≢ u → location c ≡ HeldBy w → s.location c ≡ HeldBy w
    pub home : (c : D.Cell) (v : D.Value) → location c ≡ Home v → v ≡ D.cell (replay D opening s.history).database c
    pub holder : (c : D.Cell) → location c ≡ HeldBy u → HoldsCell D progress c
    pub share : (w : ℕ) (b : UnitState D) → w ≢ u → unit_at s.units w ≡ Some b → AreasShared D progress b.progress

  -- what another unit holds is not touched
  pub holding_carried : (location after : D.Cell → CellLocation D.Value) (past : List (HistoryEntry D)) (w : ℕ) (progress : Option (StatementProgress D)) → ((c : D.Cell) → location c ≡ HeldBy w → after c ≡ HeldBy w) → Holding D opening location past w progress → Holding D opening after past w progress
  holding_carried location after past w progress same h = record { held = λ x i. same x.name (h.held x i); values = h.values; in_area = h.in_area; distinct = h.distinct; ticket = h.ticket; due = h.due }

  shared_turned : (v w : Option (StatementProgress D)) → AreasShared D v w → AreasShared D w v
  shared_turned v w h = λ a i j. ((h a j i).1, (h a j i).0)

  pub safe_update_keeps : (s : State D) (u : ℕ) (state : UnitState D) (location : D.Cell → CellLocation D.Value) (guesses : D.Guesses) (progress : Option (StatementProgress D)) → Lawful D opening s → unit_at s.units u ≡ Some state → SafeUpdate s u location progress → Lawful D opening (updated D s u state location guesses progress)
  unfolding updated
  safe_update_keeps s u state location guesses progress l at q =
      let new : UnitState D = record { unit = state.unit; guesses = guesses; script = state.script; remaining = state.remaining; progress = progress } in
      record {
        counter = l.counter;
        tickets = l.tickets;
        answers = l.answers;
        units = map_set_same (λ x. x.unit) s.units u state new at refl ∙ l.units;
        legal = l.legal;
        each = λ w b e. elim (set_found s.units u w new b e) [
          | inl p ↦ subst (λ (x : UnitState D). UnitLawful D opening location s.history w x) p.1
              (subst (λ v. UnitLawful D opening location s.history v new) (sym p.0) (record { script = (l.each u state at).script; fits = (l.each u state at).fits; holding = q.holding }))
          | inr p ↦ record { script = (l.each w b p.1).script; fits = (l.each w b p.1).fits; holding = holding_carried s.location location s.history w b.progress (λ c. q.others c w p.0) (l.each w b p.1).holding }
        ];
        apart = λ v w a b n ea eb. elim (set_found s.units u v new a ea) [
          | inl p ↦ elim (set_found s.units u w new b eb) [
            | inl r ↦ absurd (n (p.0 ∙ sym r.0))
            | inr r ↦ subst (λ (x : UnitState D). AreasShared D x.progress b.progress) p.1 (q.share w b r.0 r.1)
          ]
          | inr p ↦ elim (set_found s.units u w new b eb) [
            | inl r ↦ subst (λ (x : UnitState D). AreasShared D a.progress x.progress) r.1 (shared_turned progress a.progress (q.share v a p.0 p.1))
            | inr r ↦ l.apart v w a b n p.1 r.1
          ]
        ];
        home = q.home;
        holder = λ c w e. elim (eqb_tells w u) [
          | inl p ↦ subst (λ v. IsHolder D (with_unit_at s.units u new) v c) (sym p.1)
              (record { state = new; found = set_at s.units u state new at; holds = q.holder c (subst (λ v. location c ≡ HeldBy v) p.1 e) })
          | inr p ↦
              let h = l.holder c w (q.back c w p.1 e) in
              record { state = h.state; found = set_elsewhere s.units u w new p.1 ∙ h.found; holds = h.holds }
        ];
      }
