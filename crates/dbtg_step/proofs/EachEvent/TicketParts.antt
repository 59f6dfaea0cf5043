-- What one more entry of the history changes, and what it leaves.
use Rattle.std.proofs.Common.{ℕ, zero, suc, ◌≡◌, ◌≢◌, ◌≤◌, Bool, true, false, cond, eqb, eq-eqb, ne_eqb, List, [], ◌∷◌, ◌++◌, length, take, Option, Some, slice_get, ◌⊎◌, inl, inr, refl, sym, ap, ◌∙◌, subst, arith, length-append}
use Rattle.std.proofs.lemmas.List.{take-append-le}
use Rattle.dbtg_step.specs.Machine.SequentialDatabase.{HeldCell, SequentialDatabase, In, unit_at, with_unit_at}
use Rattle.dbtg_step.specs.Machine.Machine.{CellLocation, HeldBy, StatementProgress, HistoryEntry, SequentialState, with_effect, after_entry, replay, AnswersHold, statements_of, held_cells, held_areas, holds_exclusively, ticket_of, unless_over}
use Rattle.dbtg_step.specs.Machine.Step.{due_cells}
use Rattle.dbtg_step.specs.Machine.Lawful.{Holding, AreasShared, HoldsCell, AreDistinct}

pub append_found : {X : Type 0} (xs : List X) (y z : X) (k : ℕ) → slice_get (xs ++ y ∷ []) k ≡ Some z → (slice_get xs k ≡ Some z) ⊎ ((k ≡ length xs) × (y ≡ z))
append_found [] y z zero e = inr (refl, cc)
append_found [] y z (suc k) e = absurd (cc)
append_found (x ∷ xs) y z zero e = inl e
append_found (x ∷ xs) y z (suc k) e = elim (append_found xs y z k e) [ inl p ↦ inl p | inr p ↦ inr (ap suc p.0, p.1) ]

pub take_all_more : {X : Type 0} (xs : List X) (y : X) → take (suc (length xs)) (xs ++ y ∷ []) ≡ xs ++ y ∷ []
take_all_more [] y = refl
take_all_more (x ∷ xs) y = ap (λ ys. x ∷ ys) (take_all_more xs y)

put_on : {X : Type 0} (b : Bool) (x : X) (xs ys zs : List X) → xs ≡ ys ++ zs → cond b (x ∷ xs) xs ≡ cond b (x ∷ ys) ys ++ zs
put_on true x xs ys zs e = ap (λ as_. x ∷ as_) e
put_on false x xs ys zs e = e

module _ (D : SequentialDatabase) where
  pub replay_next : (w : SequentialState D) (es : List (HistoryEntry D)) (e : HistoryEntry D) → replay D w (es ++ e ∷ []) ≡ after_entry D (replay D w es) e
  unfolding replay
  replay_next w [] e = refl
  replay_next w (x ∷ es) e = replay_next (after_entry D w x) es e

  pub after_found : (w : SequentialState D) (e : HistoryEntry D) (unit : D.Unit) → unit_at w.units e.unit ≡ Some unit → after_entry D w e ≡ record { database = (D.effect w.database unit e.statement).database; units = with_unit_at w.units e.unit (D.effect w.database unit e.statement).unit }
  unfolding after_entry with_effect
  after_found w e unit g = ap (with_effect D w e.unit e.statement) g

  pub answers_next : (w : SequentialState D) (es : List (HistoryEntry D)) (e : HistoryEntry D) (unit : D.Unit) → AnswersHold D w es → unit_at (replay D w es).units e.unit ≡ Some unit → (D.effect (replay D w es).database unit e.statement).answer ≡ e.answer → AnswersHold D w (es ++ e ∷ [])
  unfolding replay AnswersHold
  answers_next w [] e unit a g q = (unit, g, q, tt)
  answers_next w (x ∷ es) e unit a g q = (a.0, a.1, a.2, answers_next (after_entry D w x) es e unit a.3 g q)

  -- the entries of u and of others, with one more
  pub statements_of_it : (u : ℕ) (past : List (HistoryEntry D)) (e : HistoryEntry D) → e.unit ≡ u → statements_of D u (past ++ e ∷ []) ≡ statements_of D u past ++ e.statement ∷ []
  unfolding statements_of
  statements_of_it u [] e same = rw (eq-eqb e.unit u same)
  statements_of_it u (x ∷ past) e same = put_on (eqb x.unit u) x.statement _ _ (e.statement ∷ []) (statements_of_it u past e same)

  pub statements_of_other : (u : ℕ) (past : List (HistoryEntry D)) (e : HistoryEntry D) → e.unit ≢ u → statements_of D u (past ++ e ∷ []) ≡ statements_of D u past
  unfolding statements_of
  statements_of_other u [] e other = rw (ne_eqb e.unit u other)
  statements_of_other u (x ∷ past) e other = ap (λ ys. cond (eqb x.unit u) (x.statement ∷ ys) ys) (statements_of_other u past e other)

  pub record IsDue (db : D.Db) (cells : List (HeldCell D.Cell D.Value)) (h : HeldCell D.Cell D.Value) : Type 0 where
    pub from : HeldCell D.Cell D.Value
    pub is_in : In from cells
    pub name : h.name ≡ from.name
    pub value : h.value ≡ D.cell db h.name

  pub due_found : (db : D.Db) (cells : List (HeldCell D.Cell D.Value)) (h : HeldCell D.Cell D.Value) → In h (due_cells D db cells) → IsDue db cells h
  unfolding due_cells
  due_found db [] h i = absurd i
  due_found db (k ∷ ks) h (inl q) = record { from = k; is_in = inl refl; name = ap (λ (x : HeldCell D.Cell D.Value). x.name) q; value = ap (λ (x : HeldCell D.Cell D.Value). x.value) q ∙ ap (D.cell db) (sym (ap (λ (x : HeldCell D.Cell D.Value). x.name) q)) }
  due_found db (k ∷ ks) h (inr i) = let d = due_found db ks h i in record { from = d.from; is_in = inr d.is_in; name = d.name; value = d.value }

  pub due_of : (db : D.Db) (cells : List (HeldCell D.Cell D.Value)) (h : HeldCell D.Cell D.Value) → In h cells → In (record { name = h.name; value = D.cell db h.name }) (due_cells D db cells)
  unfolding due_cells
  due_of db [] h i = absurd i
  due_of db (k ∷ ks) h (inl q) = inl (λ i. record { name = (q i).name; value = D.cell db (q i).name })
  due_of db (k ∷ ks) h (inr i) = inr (due_of db ks h i)

  pub due_apart : (db : D.Db) (cells : List (HeldCell D.Cell D.Value)) → AreDistinct D cells → AreDistinct D (due_cells D db cells)
  unfolding due_cells AreDistinct
  due_apart db [] a = tt
  due_apart db (k ∷ ks) a = ((λ h i q. let d = due_found db ks h i in a.0 d.from d.is_in (sym d.name ∙ q)), due_apart db ks a.1)

  -- the same of a statement that is over, with nothing held
  pub holding_over : (opening : SequentialState D) (location : D.Cell → CellLocation D.Value) (past : List (HistoryEntry D)) (u : ℕ) (w : StatementProgress D) (areas : List ℕ) (cells : List (HeldCell D.Cell D.Value)) → Holding D opening location past u (Some w) → Holding D opening location past u (unless_over D w areas cells)
  unfolding unless_over held_cells held_areas ticket_of AreDistinct
  holding_over opening location past u w [] [] h = record {
    held = λ h i. absurd i;
    values = λ h i. absurd i;
    in_area = λ h i. absurd i;
    distinct = tt;
    ticket = λ t e. absurd (cc);
    due = λ t e h i. absurd i;
  }
  holding_over opening location past u w [] (x ∷ xs) h = h
  holding_over opening location past u w (a ∷ areas) cells h = h

  pub holds_over : (w : StatementProgress D) (areas : List ℕ) (cells : List (HeldCell D.Cell D.Value)) (c : D.Cell) → w.cells ≡ cells → HoldsCell D (Some w) c → HoldsCell D (unless_over D w areas cells) c
  unfolding unless_over held_cells
  holds_over w [] [] c e h = let i = subst (λ x. In h.which x) e h.is_in in absurd i
  holds_over w [] (x ∷ xs) c e h = h
  holds_over w (a ∷ areas) cells c e h = h

  pub shared_over : (w : StatementProgress D) (areas : List ℕ) (cells : List (HeldCell D.Cell D.Value)) (v : Option (StatementProgress D)) → AreasShared D (Some w) v → AreasShared D (unless_over D w areas cells) v
  unfolding unless_over held_areas holds_exclusively
  shared_over w [] [] v h = λ a i j. absurd i
  shared_over w [] (x ∷ xs) v h = h
  shared_over w (a ∷ areas) cells v h = h

  pub shared_back : (v w : Option (StatementProgress D)) → AreasShared D v w → AreasShared D w v
  shared_back v w h = λ a i j. ((h a j i).1, (h a j i).0)

  -- the world after one more entry
  pub state_next : (opening : SequentialState D) (past : List (HistoryEntry D)) (e : HistoryEntry D) (unit : D.Unit) → unit_at (replay D opening past).units e.unit ≡ Some unit →
      replay D opening (past ++ e ∷ []) ≡ record { database = (D.effect (replay D opening past).database unit e.statement).database; units = with_unit_at (replay D opening past).units e.unit (D.effect (replay D opening past).database unit e.statement).unit }
  state_next opening past e unit g = replay_next opening past e ∙ after_found (replay D opening past) e unit g

  -- what another unit holds stands, where the entry leaves these cells as they were
  pub holding_stays : (opening : SequentialState D) (location : D.Cell → CellLocation D.Value) (past : List (HistoryEntry D)) (e : HistoryEntry D) (u : ℕ) (progress : Option (StatementProgress D)) →
      ((c : D.Cell) → location c ≡ HeldBy u → D.cell (replay D opening (past ++ e ∷ [])).database c ≡ D.cell (replay D opening past).database c) →
      Holding D opening location past u progress → Holding D opening location (past ++ e ∷ []) u progress
  holding_stays opening location past e u progress same h = record {
    held = h.held;
    values = λ k i. h.values k i ∙ sym (same k.name (h.held k i));
    in_area = h.in_area;
    distinct = h.distinct;
    ticket = λ t q. let lt = h.ticket t q in omega (arith, length-append past (e ∷ []));
    due = λ t q. let lt : suc t ≤ length past = h.ticket t q in rw (take-append-le (suc t) past (e ∷ []) lt) (h.due t q);
  }
