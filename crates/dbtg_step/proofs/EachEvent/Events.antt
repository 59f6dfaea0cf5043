-- Each event that draws no ticket is a safe update.
use Rattle.std.proofs.Common.{ℕ, ◌≡◌, ◌≢◌, Bool, true, false, ◌&&◌, ◌||◌, eqb, List, [], ◌∷◌, Some, None, slice_get, ◌⊎◌, inl, inr, refl, sym, ap, ◌∙◌, subst, zero, suc, eq-eqb}
use Rattle.dbtg_step.specs.Machine.SequentialDatabase.{HeldCell, SequentialDatabase, In, NotAmong, unit_at}
use Rattle.dbtg_step.specs.Inside.SequentialDatabase.{IsSequentialDatabase}
use Rattle.dbtg_step.specs.Machine.Machine.{CellLocation, Home, HeldBy, StatementProgress, UnitState, HistoryEntry, State, SequentialState, replay, held_cells, held_areas, holds_exclusively, ticket_of, begun, relocated, all_home, unless_over}
use Rattle.std.specs.List.{list_any}
use Rattle.std.proofs.lemmas.Bool.{or_right}
use Rattle.dbtg_step.specs.Machine.Step.{any_but, any_other, conflicts}
use Rattle.dbtg_step.specs.Machine.Lawful.{Holding, AreasShared, HoldsCell, Lawful, AreDistinct}
use Rattle.dbtg_step.proofs.EachEvent.UnitLists.{relocated_found, relocated_at, relocated_elsewhere}
use Rattle.dbtg_step.proofs.EachEvent.UnitFacts.{holder_has_cell}
use Rattle.dbtg_step.proofs.EachEvent.Updates.{SafeUpdate}

or_false_left : (a b : Bool) → (a || b) ≡ false → a ≡ false
or_false_left true b e = cc
or_false_left false b e = refl

or_false_right : (a b : Bool) → (a || b) ≡ false → b ≡ false
or_false_right true b e = absurd (cc)
or_false_right false b e = e

-- where one of two tests passes and both do not, the other does not
pub and_false : (a b : Bool) → (a && b) ≡ false → a ≡ true → b ≡ false
and_false true b e t = e
and_false false b e t = absurd (cc)

pub list_any_true : {X : Type 0} (p : X → Bool) (xs : List X) (x : X) → In x xs → p x ≡ true → list_any p xs ≡ true
list_any_true p [] x i t = absurd i
list_any_true p (y ∷ ys) x (inl h) t = rw (sym (ap p h) ∙ t)
list_any_true p (y ∷ ys) x (inr h) t = or_right (p y) _ (list_any_true p ys x h t)

pub list_any_found : {X : Type 0} (p : X → Bool) (xs : List X) (w : ℕ) (x : X) → list_any p xs ≡ false → slice_get xs w ≡ Some x → p x ≡ false
list_any_found p [] w x e g = absurd (cc)
list_any_found p (y ∷ ys) zero x e g = let h : x ≡ y = cc in ap p h ∙ or_false_left (p y) (list_any p ys) e
list_any_found p (y ∷ ys) (suc w) x e g = list_any_found p ys w x (or_false_right (p y) (list_any p ys) e) g

any_but_false : {X : Type 0} (p : X → Bool) (i : ℕ) (xs : List X) (j : ℕ) (x : X) → any_but p i xs ≡ false → j ≢ i → slice_get xs j ≡ Some x → p x ≡ false
unfolding any_but
any_but_false p i [] j x e n g = absurd (cc)
any_but_false p zero (y ∷ ys) zero x e n g = absurd (n refl)
any_but_false p zero (y ∷ ys) (suc j) x e n g = list_any_found p ys j x e g
any_but_false p (suc i) (y ∷ ys) zero x e n g = let h : x ≡ y = cc in ap p h ∙ or_false_left (p y) (any_but p i ys) e
any_but_false p (suc i) (y ∷ ys) (suc j) x e n g = any_but_false p i ys j x (or_false_right (p y) (any_but p i ys) e) (λ q. n (ap suc q)) g

pub any_other_false : {X : Type 0} (p : X → Bool) (u : ℕ) (xs : List X) (w : ℕ) (x : X) → any_other p u xs ≡ false → w ≢ u → unit_at xs w ≡ Some x → p x ≡ false
unfolding any_other unit_at
any_other_false p u xs zero x e n g = absurd (cc (g))
any_other_false p zero xs (suc w) x e n g = list_any_found p xs w x e g
any_other_false p (suc u) xs (suc w) x e n g = any_but_false p u xs w x e (λ q. n (ap suc q)) g

module _ (D : SequentialDatabase) (laws : IsSequentialDatabase D) (opening : SequentialState D) where
  pub holds_nothing : (location : D.Cell → CellLocation D.Value) (past : List (HistoryEntry D)) (u : ℕ) → Holding D opening location past u None
  unfolding held_cells held_areas ticket_of AreDistinct
  holds_nothing location past u = record {
    held = λ h i. absurd i;
    values = λ h i. absurd i;
    in_area = λ h i. absurd i;
    distinct = tt;
    ticket = λ t e. absurd (cc);
    due = λ t e h i. absurd i;
  }

  pub begin_is_safe : (s : State D) (u : ℕ) (state : UnitState D) (x : D.Statement) → Lawful D opening s → unit_at s.units u ≡ Some state → state.progress ≡ None → SafeUpdate D opening s u s.location (Some (begun D x))
  unfolding held_cells held_areas ticket_of AreDistinct begun
  begin_is_safe s u state x l at none = record {
    holding = record {
      held = λ h i. absurd i;
      values = λ h i. absurd i;
      in_area = λ h i. absurd i;
      distinct = tt;
      ticket = λ t e. absurd (cc);
      due = λ t e h i. absurd i;
    };
    others = λ c w n e. e;
    back = λ c w n e. e;
    home = l.home;
    holder = λ c e. let h = subst (λ v. HoldsCell D v c) none (holder_has_cell D opening s l u state at c e) in absurd h.is_in;
    share = λ w b n e a i j. absurd i;
  }

  -- the same cells, areas and ticket
  pub same_is_safe : (s : State D) (u : ℕ) (state : UnitState D) (v w : StatementProgress D) → Lawful D opening s → unit_at s.units u ≡ Some state → state.progress ≡ Some v → w.cells ≡ v.cells → w.areas ≡ v.areas → w.ticket ≡ v.ticket → w.exclusive ≡ v.exclusive → SafeUpdate D opening s u s.location (Some w)
  unfolding held_cells held_areas ticket_of holds_exclusively
  same_is_safe s u state v w l at is cs as_ ts xs =
      let old = subst (λ o. Holding D opening s.location s.history u o) is (l.each u state at).holding in
      record {
        holding = record {
          held = rw cs old.held;
          values = rw cs old.values;
          in_area = rw (cs, as_) old.in_area;
          distinct = rw cs old.distinct;
          ticket = rw ts old.ticket;
          due = rw (ts, cs) old.due;
        };
        others = λ c w n e. e;
        back = λ c w n e. e;
        home = l.home;
        holder = λ c e. let h = subst (λ v. HoldsCell D v c) is (holder_has_cell D opening s l u state at c e) in record { which = h.which; is_in = rw cs h.is_in; name = h.name };
        share = λ o b n e. rw (as_, xs) (subst (λ y. AreasShared D y b.progress) is (l.apart u o state b (λ q. n (sym q)) at e));
      }

  pub area_is_safe : (s : State D) (u : ℕ) (state : UnitState D) (w : StatementProgress D) (a : ℕ) → Lawful D opening s → unit_at s.units u ≡ Some state → state.progress ≡ Some w → any_other (conflicts D w.exclusive a) u s.units ≡ false → SafeUpdate D opening s u s.location (Some (record w { areas = a ∷ w.areas }))
  unfolding held_cells held_areas ticket_of holds_exclusively conflicts
  area_is_safe s u state w a l at is free =
      let old = subst (λ o. Holding D opening s.location s.history u o) is (l.each u state at).holding in
      record {
        holding = record {
          held = old.held;
          values = old.values;
          in_area = λ h i. inr (old.in_area h i);
          distinct = old.distinct;
          ticket = old.ticket;
          due = old.due;
        };
        others = λ c w n e. e;
        back = λ c w n e. e;
        home = l.home;
        holder = λ c e. let h = subst (λ v. HoldsCell D v c) is (holder_has_cell D opening s l u state at c e) in record { which = h.which; is_in = h.is_in; name = h.name };
        share = λ o b n e x i j. elim i [
          | inl q ↦
              let f = any_other_false (conflicts D w.exclusive a) u s.units o b free n e in
              let g = and_false _ _ f (list_any_true (eqb a) (held_areas D b.progress) x j (eq-eqb a x (sym q))) in
              (or_false_left _ _ g, or_false_right _ _ g)
          | inr k ↦ (subst (λ y. AreasShared D y b.progress) is (l.apart u o state b (λ q. n (sym q)) at e)) x k j
        ];
      }

  pub take_is_safe : (s : State D) (u : ℕ) (state : UnitState D) (w : StatementProgress D) (c : D.Cell) (v : D.Value) → Lawful D opening s → unit_at s.units u ≡ Some state → state.progress ≡ Some w → w.ticket ≡ None → In (D.area c) w.areas → s.location c ≡ Home v → SafeUpdate D opening s u (relocated D s.location c (HeldBy u)) (Some (record w { cells = record { name = c; value = v } ∷ w.cells }))
  unfolding held_cells held_areas ticket_of holds_exclusively AreDistinct
  take_is_safe s u state w c v l at is no_ticket within free =
      let old = subst (λ o. Holding D opening s.location s.history u o) is (l.each u state at).holding in
      let new : HeldCell D.Cell D.Value = record { name = c; value = v } in
      let apart : (h : HeldCell D.Cell D.Value) → In h w.cells → h.name ≢ c = λ h i q. let e = old.held h i in let f : s.location h.name ≡ Home v = subst (λ x. s.location x ≡ Home v) (sym q) free in absurd (cc) in
      let elsewhere : (d : D.Cell) (o : ℕ) → s.location d ≡ HeldBy o → relocated D s.location c (HeldBy u) d ≡ HeldBy o = λ d o e. relocated_elsewhere D laws.names s.location c d (HeldBy u) (λ q. let f : s.location d ≡ Home v = subst (λ x. s.location x ≡ Home v) (sym q) free in absurd (cc)) ∙ e in
      record {
        holding = record {
          held = λ h i. elim i [
            | inl q ↦ subst (λ (x : HeldCell D.Cell D.Value). relocated D s.location c (HeldBy u) x.name ≡ HeldBy u) (sym q) (relocated_at D laws.names s.location c (HeldBy u))
            | inr j ↦ elsewhere h.name u (old.held h j)
          ];
          values = λ h i. elim i [
            | inl q ↦ subst (λ (x : HeldCell D.Cell D.Value). x.value ≡ D.cell (replay D opening s.history).database x.name) (sym q) (l.home c v free)
            | inr j ↦ old.values h j
          ];
          in_area = λ h i. elim i [
            | inl q ↦ subst (λ (x : HeldCell D.Cell D.Value). In (D.area x.name) w.areas) (sym q) within
            | inr j ↦ old.in_area h j
          ];
          distinct = (apart, old.distinct);
          ticket = λ t e. absurd (cc);
          due = λ t e. absurd (cc);
        };
        others = λ d o n e. elsewhere d o e;
        back = λ d o n e. elim (relocated_found D laws.names s.location c d (HeldBy u) (HeldBy o) e) [
          | inl p ↦ let q : u ≡ o = cc in absurd (n (sym q))
          | inr p ↦ p.1
        ];
        home = λ d x e. elim (relocated_found D laws.names s.location c d (HeldBy u) (Home x) e) [
          | inl p ↦ absurd (cc)
          | inr p ↦ l.home d x p.1
        ];
        holder = λ d e. elim (relocated_found D laws.names s.location c d (HeldBy u) (HeldBy u) e) [
          | inl p ↦ record { which = new; is_in = inl refl; name = sym p.0 }
          | inr p ↦ let h = subst (λ y. HoldsCell D y d) is (holder_has_cell D opening s l u state at d p.1) in record { which = h.which; is_in = inr h.is_in; name = h.name }
        ];
        share = λ o b n e. subst (λ y. AreasShared D y b.progress) is (l.apart u o state b (λ q. n (sym q)) at e);
      }

  -- the newest cell goes back
  pub back_is_safe : (s : State D) (u : ℕ) (state : UnitState D) (v w : StatementProgress D) (h : HeldCell D.Cell D.Value) → Lawful D opening s → unit_at s.units u ≡ Some state → state.progress ≡ Some v → v.cells ≡ h ∷ w.cells → w.areas ≡ v.areas → w.ticket ≡ v.ticket → w.exclusive ≡ v.exclusive → SafeUpdate D opening s u (relocated D s.location h.name (Home h.value)) (Some w)
  unfolding held_cells held_areas ticket_of holds_exclusively AreDistinct
  back_is_safe s u state v w h l at is cs as_ ts xs =
      let old = subst (λ o. Holding D opening s.location s.history u o) is (l.each u state at).holding in
      let location = relocated D s.location h.name (Home h.value) in
      let inside : (k : HeldCell D.Cell D.Value) → In k w.cells → In k v.cells = λ k i. rw cs (inr i) in
      let first : In h v.cells = rw cs (inl refl) in
      let distinct : AreDistinct D (h ∷ w.cells) = subst (λ x. AreDistinct D x) cs old.distinct in
      record {
        holding = record {
          held = λ k i. relocated_elsewhere D laws.names s.location h.name k.name (Home h.value) (distinct.0 k i) ∙ old.held k (inside k i);
          values = λ k i. old.values k (inside k i);
          in_area = λ k i. rw as_ (old.in_area k (inside k i));
          distinct = distinct.1;
          ticket = rw ts old.ticket;
          due = rw ts (λ t e k i. old.due t e k (inside k i));
        };
        others = λ d o n e. relocated_elsewhere D laws.names s.location h.name d (Home h.value) (λ q. let f : s.location d ≡ HeldBy u = subst (λ x. s.location x ≡ HeldBy u) (sym q) (old.held h first) in let g : o ≡ u = cc in n g) ∙ e;
        back = λ d o n e. elim (relocated_found D laws.names s.location h.name d (Home h.value) (HeldBy o) e) [
          | inl p ↦ absurd (cc)
          | inr p ↦ p.1
        ];
        home = λ d x e. elim (relocated_found D laws.names s.location h.name d (Home h.value) (Home x) e) [
          | inl p ↦ let q : h.value ≡ x = cc in sym q ∙ (old.values h first ∙ ap (D.cell (replay D opening s.history).database) (sym p.0))
          | inr p ↦ l.home d x p.1
        ];
        holder = λ d e. elim (relocated_found D laws.names s.location h.name d (Home h.value) (HeldBy u) e) [
          | inl p ↦ absurd (cc)
          | inr p ↦
              let k = subst (λ y. HoldsCell D y d) is (holder_has_cell D opening s l u state at d p.1) in
              let i : In k.which (h ∷ w.cells) = subst (λ x. In k.which x) cs k.is_in in
              elim i [
                | inl q ↦ absurd (p.0 (sym k.name ∙ ap (λ (x : HeldCell D.Cell D.Value). x.name) q))
                | inr j ↦ record { which = k.which; is_in = j; name = k.name }
              ]
        ];
        share = λ o b n e. rw (as_, xs) (subst (λ y. AreasShared D y b.progress) is (l.apart u o state b (λ q. n (sym q)) at e));
      }

  -- where no cell is held the newest area is left
  pub leave_is_safe : (s : State D) (u : ℕ) (state : UnitState D) (v w : StatementProgress D) (a : ℕ) → Lawful D opening s → unit_at s.units u ≡ Some state → state.progress ≡ Some v → v.cells ≡ [] → w.cells ≡ [] → v.areas ≡ a ∷ w.areas → w.ticket ≡ v.ticket → w.exclusive ≡ v.exclusive → SafeUpdate D opening s u s.location (Some w)
  unfolding held_cells held_areas ticket_of holds_exclusively AreDistinct
  leave_is_safe s u state v w a l at is none nothing as_ ts xs =
      let old = subst (λ o. Holding D opening s.location s.history u o) is (l.each u state at).holding in
      record {
        holding = record {
          held = rw nothing (λ k i. absurd i);
          values = rw nothing (λ k i. absurd i);
          in_area = rw nothing (λ k i. absurd i);
          distinct = rw nothing tt;
          ticket = rw ts old.ticket;
          due = rw nothing (λ t e k i. absurd i);
        };
        others = λ c w n e. e;
        back = λ c w n e. e;
        home = l.home;
        holder = λ c e. let h = subst (λ v. HoldsCell D v c) is (holder_has_cell D opening s l u state at c e) in let i = subst (λ x. In h.which x) none h.is_in in absurd i;
        share = λ o b n e. let g = subst (λ y. AreasShared D y b.progress) is (l.apart u o state b (λ q. n (sym q)) at e) in λ x i j. rw xs (g x (rw as_ (inr i)) j);
      }

  -- the statement of a unit that holds nothing any more is over
  pub over_is_safe : (s : State D) (u : ℕ) (location : D.Cell → CellLocation D.Value) (w : StatementProgress D) (areas : List ℕ) (cells : List (HeldCell D.Cell D.Value)) → w.cells ≡ cells → SafeUpdate D opening s u location (Some w) → SafeUpdate D opening s u location (unless_over D w areas cells)
  unfolding held_cells held_areas ticket_of holds_exclusively unless_over
  over_is_safe s u location w [] [] cs q = record {
    holding = holds_nothing location s.history u;
    others = q.others;
    back = q.back;
    home = q.home;
    holder = λ c e. let h = q.holder c e in let i = subst (λ x. In h.which x) cs h.is_in in absurd i;
    share = λ o b n e x i j. absurd i;
  }
  over_is_safe s u location w [] (h ∷ hs) cs q = q
  over_is_safe s u location w (a ∷ areas) cells cs q = q

  pub record WentHome (cells : List (HeldCell D.Cell D.Value)) (c : D.Cell) (q : CellLocation D.Value) : Type 0 where
    pub which : HeldCell D.Cell D.Value
    pub is_in : In which cells
    pub name : c ≡ which.name
    pub value : Home which.value ≡ q

  pub all_home_found : (location : D.Cell → CellLocation D.Value) (cells : List (HeldCell D.Cell D.Value)) (c : D.Cell) (q : CellLocation D.Value) → all_home D location cells c ≡ q → WentHome cells c q ⊎ (NotAmong D c cells × (location c ≡ q))
  unfolding all_home
  all_home_found location [] c q e = inr ((λ h i. absurd i), e)
  all_home_found location (h ∷ hs) c q e = elim (all_home_found (relocated D location h.name (Home h.value)) hs c q e) [
    | inl g ↦ inl (record { which = g.which; is_in = inr g.is_in; name = g.name; value = g.value })
    | inr g ↦ elim (relocated_found D laws.names location h.name c (Home h.value) q g.1) [
      | inl p ↦ inl (record { which = h; is_in = inl refl; name = p.0; value = p.1 })
      | inr p ↦ inr ((λ k i. elim i [ inl r ↦ (λ t. p.0 (sym t ∙ ap (λ (x : HeldCell D.Cell D.Value). x.name) r)) | inr j ↦ g.0 k j ]), p.1)
    ]
  ]

  pub all_home_elsewhere : (location : D.Cell → CellLocation D.Value) (cells : List (HeldCell D.Cell D.Value)) (c : D.Cell) → NotAmong D c cells → all_home D location cells c ≡ location c
  unfolding all_home
  all_home_elsewhere location [] c n = refl
  all_home_elsewhere location (h ∷ hs) c n =
      all_home_elsewhere (relocated D location h.name (Home h.value)) hs c (λ k i. n k (inr i))
      ∙ relocated_elsewhere D laws.names location h.name c (Home h.value) (λ q. n h (inl refl) (sym q))

  pub quit_is_safe : (s : State D) (u : ℕ) (state : UnitState D) (w : StatementProgress D) → Lawful D opening s → unit_at s.units u ≡ Some state → state.progress ≡ Some w → SafeUpdate D opening s u (all_home D s.location w.cells) None
  unfolding held_cells held_areas ticket_of holds_exclusively AreDistinct
  quit_is_safe s u state w l at is =
      let old = subst (λ o. Holding D opening s.location s.history u o) is (l.each u state at).holding in
      record {
        holding = holds_nothing (all_home D s.location w.cells) s.history u;
        others = λ d o n e. all_home_elsewhere s.location w.cells d (λ h i q. let f : s.location d ≡ HeldBy u = subst (λ x. s.location x ≡ HeldBy u) q (old.held h i) in let g : o ≡ u = cc in n g) ∙ e;
        back = λ d o n e. elim (all_home_found s.location w.cells d (HeldBy o) e) [ inl g ↦ absurd (cc (g.value)) | inr g ↦ g.1 ];
        home = λ d x e. elim (all_home_found s.location w.cells d (Home x) e) [
          | inl g ↦ let q : g.which.value ≡ x = cc (g.value) in sym q ∙ (old.values g.which g.is_in ∙ ap (D.cell (replay D opening s.history).database) (sym g.name))
          | inr g ↦ l.home d x g.1
        ];
        holder = λ d e. elim (all_home_found s.location w.cells d (HeldBy u) e) [
          | inl g ↦ absurd (cc (g.value))
          | inr g ↦ let k = subst (λ y. HoldsCell D y d) is (holder_has_cell D opening s l u state at d g.1) in absurd (g.0 k.which k.is_in k.name)
        ];
        share = λ o b n e a i j. absurd i;
      }
