-- A ticket keeps a state lawful.
use Rattle.std.proofs.Common.{ℕ, suc, ◌≡◌, ◌≢◌, false, List, [], ◌∷◌, ◌++◌, length, Some, inl, inr, refl, sym, ap, ◌∙◌, subst, arith, length-append, append_assoc}
use Rattle.std.proofs.lemmas.Bool.Decides.{eqb_tells}
use Rattle.dbtg_step.specs.Machine.SequentialDatabase.{SequentialDatabase, In, NotAmong, NeedsNothing, unit_at, with_unit_at}
use Rattle.dbtg_step.specs.Inside.SequentialDatabase.{IsSequentialDatabase}
use Rattle.dbtg_step.specs.Machine.Machine.{HeldBy, StatementProgress, UnitState, HistoryEntry, State, SequentialState, replay, statements_of, held_cells, held_areas, holds_exclusively, ticket_of, unless_over}
use Rattle.dbtg_step.specs.Machine.Step.{with_ticket, due_cells, next_need}
use Rattle.dbtg_step.specs.Machine.Lawful.{Holding, UnitLawful, AreasShared, HoldsCell, IsHolder, Lawful}
use Rattle.dbtg_step.proofs.EachEvent.UnitLists.{set_found, set_at, set_elsewhere, map_set}
use Rattle.dbtg_step.proofs.EachEvent.UnitFacts.{holder_has_cell, may_make}
use Rattle.dbtg_step.proofs.EachEvent.TicketParts.{append_found, take_all_more, answers_next, statements_of_it, statements_of_other, due_found, due_of, due_apart, holding_over, holds_over, shared_over, shared_back, state_next, holding_stays}

module _ (D : SequentialDatabase) (laws : IsSequentialDatabase D) (opening : SequentialState D) where
  pub ticket_keeps : (s : State D) (u : ℕ) (state : UnitState D) (w : StatementProgress D) (x : D.Statement) (xs : List D.Statement) → Lawful D opening s → unit_at s.units u ≡ Some state → state.progress ≡ Some w → state.remaining ≡ x ∷ xs → next_need D opening s state w x ≡ NeedsNothing → Lawful D opening (with_ticket D opening s u state w x xs)
  unfolding with_ticket next_need held_cells held_areas ticket_of holds_exclusively
  ticket_keeps s u state w x xs l at is remaining ready =
      let past = s.history in
      let q = replay D opening past in
      let e = D.effect q.database state.unit x in
      let entry : HistoryEntry D = record { ticket = s.counter; unit = u; statement = x; answer = e.answer } in
      let old = subst (λ o. Holding D opening s.location past u o) is (l.each u state at).holding in
      let may = may_make D opening s l u state at x xs remaining in
      let next : replay D opening (past ++ entry ∷ []) ≡ record { database = e.database; units = with_unit_at q.units u e.unit } = state_next D opening past entry state.unit may.found in
      let next_db : (replay D opening (past ++ entry ∷ [])).database ≡ e.database = ap (λ (y : SequentialState D). y.database) next in
      let local = laws.local q.database q.units u state.unit x state.guesses w.areas w.cells may old.values ready in
      let progress : StatementProgress D = record { exclusive = w.exclusive; areas = w.areas; cells = due_cells D e.database w.cells; turning_back = false; ticket = Some s.counter; linked = 0 } in
      let over = unless_over D progress w.areas (due_cells D e.database w.cells) in
      let new : UnitState D = record { unit = e.unit; guesses = D.guesses_after q.database state.unit x state.guesses; script = state.script; remaining = xs; progress = over } in
      let untouched : (c : D.Cell) → NotAmong D c w.cells → D.cell (replay D opening (past ++ entry ∷ [])).database c ≡ D.cell q.database c = λ c n. rw next_db (local.others c n) in
      let elsewhere : (c : D.Cell) (o : ℕ) → o ≢ u → s.location c ≡ HeldBy o → NotAmong D c w.cells = λ c o n p h i q. let f : s.location c ≡ HeldBy u = subst (λ d. s.location d ≡ HeldBy u) q (old.held h i) in let g : o ≡ u = cc in n g in
      let shared : (o : ℕ) (b : UnitState D) → o ≢ u → unit_at s.units o ≡ Some b → AreasShared D (Some progress) b.progress = λ o b n g. subst (λ y. AreasShared D y b.progress) is (l.apart u o state b (λ q. n (sym q)) at g) in
      let holding : Holding D opening s.location (past ++ entry ∷ []) u (Some progress) = record {
        held = λ h i. let d = due_found D e.database w.cells h i in subst (λ c. s.location c ≡ HeldBy u) (sym d.name) (old.held d.from d.is_in);
        values = λ h i. let d = due_found D e.database w.cells h i in rw next_db d.value;
        in_area = λ h i. let d = due_found D e.database w.cells h i in subst (λ c. In (D.area c) w.areas) (sym d.name) (old.in_area d.from d.is_in);
        distinct = due_apart D e.database w.cells old.distinct;
        ticket = λ t q. let k : s.counter ≡ t = cc in omega (arith, k, l.counter, length-append past (entry ∷ []));
        due = λ t q h i.
            let k : s.counter ≡ t = cc in
            let m : suc t ≡ suc (length past) = ap suc (sym k ∙ l.counter) in
            let d = due_found D e.database w.cells h i in
            rw (m, take_all_more past entry, next_db) d.value;
      } in
      record {
        counter = ap suc l.counter ∙ sym (length-append past (entry ∷ []) ∙ omega arith);
        tickets = λ k f g. elim (append_found past entry f k g) [
          | inl p ↦ l.tickets k f p
          | inr p ↦ subst (λ (y : HistoryEntry D). y.ticket ≡ k) p.1 (l.counter ∙ sym p.0)
        ];
        answers = answers_next D opening past entry state.unit l.answers may.found refl;
        units = map_set (λ (y : UnitState D). y.unit) s.units u new ∙ (ap (λ us. with_unit_at us u e.unit) l.units ∙ sym (ap (λ (y : SequentialState D). y.units) next));
        legal = rw next local.legal;
        each = λ o b g. elim (set_found s.units u o new b g) [
          | inl p ↦ subst (λ (y : UnitState D). UnitLawful D opening s.location (past ++ entry ∷ []) o y) p.1
              (subst (λ v. UnitLawful D opening s.location (past ++ entry ∷ []) v new) (sym p.0) (record {
                script = rw (statements_of_it D u past entry refl) (append_assoc (statements_of D u past) (x ∷ []) xs ∙ (ap (λ ys. statements_of D u past ++ ys) (sym remaining) ∙ (l.each u state at).script));
                fits = (l.each u state at).fits;
                holding = holding_over D opening s.location (past ++ entry ∷ []) u progress w.areas (due_cells D e.database w.cells) holding;
              }))
          | inr p ↦ record {
            script = rw (statements_of_other D o past entry (λ q. p.0 (sym q))) (l.each o b p.1).script;
            fits = (l.each o b p.1).fits;
            holding = holding_stays D opening s.location past entry o b.progress (λ c q. untouched c (elsewhere c o p.0 q)) (l.each o b p.1).holding;
          }
        ];
        apart = λ v o a b n ea eb. elim (set_found s.units u v new a ea) [
          | inl p ↦ elim (set_found s.units u o new b eb) [
            | inl r ↦ absurd (n (p.0 ∙ sym r.0))
            | inr r ↦ subst (λ (y : UnitState D). AreasShared D y.progress b.progress) p.1 (shared_over D progress w.areas (due_cells D e.database w.cells) b.progress (shared o b r.0 r.1))
          ]
          | inr p ↦ elim (set_found s.units u o new b eb) [
            | inl r ↦ subst (λ (y : UnitState D). AreasShared D a.progress y.progress) r.1 (shared_back D over a.progress (shared_over D progress w.areas (due_cells D e.database w.cells) a.progress (shared v a p.0 p.1)))
            | inr r ↦ l.apart v o a b n p.1 r.1
          ]
        ];
        home = λ c v p. l.home c v p ∙ sym (untouched c (λ h i q. let f : s.location c ≡ HeldBy u = subst (λ d. s.location d ≡ HeldBy u) q (old.held h i) in absurd (cc)));
        holder = λ c o p. elim (eqb_tells o u) [
          | inl q ↦
              let h = subst (λ y. HoldsCell D y c) is (holder_has_cell D opening s l u state at c (subst (λ v. s.location c ≡ HeldBy v) q.1 p)) in
              let has : HoldsCell D (Some progress) c = record { which = record { name = h.which.name; value = D.cell e.database h.which.name }; is_in = due_of D e.database w.cells h.which h.is_in; name = h.name } in
              subst (λ v. IsHolder D (with_unit_at s.units u new) v c) (sym q.1) (record { state = new; found = set_at s.units u state new at; holds = holds_over D progress w.areas (due_cells D e.database w.cells) c refl has })
          | inr q ↦
              let h = l.holder c o p in
              record { state = h.state; found = set_elsewhere s.units u o new q.1 ∙ h.found; holds = h.holds }
        ];
      }
