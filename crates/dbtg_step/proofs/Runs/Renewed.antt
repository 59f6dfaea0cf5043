-- A unit's script and guesses are free, and a ticket may be forgotten: what a lawful state keeps where they change.
use Rattle.std.proofs.Common.{ℕ, zero, suc, ◌≡◌, ◌≢◌, Bool, false, List, [], ◌∷◌, ◌++◌, length, Some, None, ◌⊎◌, inl, inr, refl, sym, ap, ◌∙◌, subst, length-set}
use Rattle.std.proofs.lemmas.Bool.Decides.{eqb_tells}
use Rattle.dbtg_step.specs.Machine.SequentialDatabase.{HeldCell, SequentialDatabase, In, NeedsNothing, unit_at, with_unit_at}
use Rattle.dbtg_step.specs.Inside.SequentialDatabase.{IsSequentialDatabase}
use Rattle.dbtg_step.specs.Machine.Machine.{HeldBy, StatementProgress, UnitState, State, SequentialState, replay, statements_of, held_cells, held_areas, holds_exclusively, ticket_of, unless_over}
use Rattle.dbtg_step.specs.Machine.Step.{updated, with_ticket, due_cells, next_need}
use Rattle.dbtg_step.specs.Machine.Lawful.{Holding, UnitLawful, AreasShared, HoldsCell, IsHolder, Lawful, AreDistinct}
use Rattle.dbtg_step.proofs.EachEvent.UnitLists.{set_found, set_at, set_elsewhere, map_set_same}
use Rattle.dbtg_step.proofs.EachEvent.UnitFacts.{holder_has_cell}
use Rattle.dbtg_step.proofs.EachEvent.Updates.{SafeUpdate, safe_update_keeps}
use Rattle.dbtg_step.proofs.EachEvent.Tickets.{ticket_keeps}
use Rattle.dbtg_step.proofs.TheCore.NeedsShown.{in_front_of}

in_either : {X : Type 0} (x : X) (xs ys : List X) → In x (xs ++ ys) → In x xs ⊎ In x ys
in_either x [] ys i = inr i
in_either x (y ∷ xs) ys (inl e) = inl (inl e)
in_either x (y ∷ xs) ys (inr i) = elim (in_either x xs ys i) [ inl j ↦ inl (inr j) | inr j ↦ inr j ]

-- with one unit written anew, there are as many units
pub length_with : {X : Type 0} (xs : List X) (u : ℕ) (x : X) → length (with_unit_at xs u x) ≡ length xs
unfolding with_unit_at
length_with xs zero x = refl
length_with xs (suc n) x = length-set xs n x

module _ (D : SequentialDatabase) (laws : IsSequentialDatabase D) (opening : SequentialState D) where
  -- the unit is about to make x, with any guesses; what it holds is the same
  abbrev pub asked : State D → ℕ → UnitState D → D.Statement → D.Guesses → UnitState D
  asked s u state x g = record { unit = state.unit; guesses = g; script = statements_of D u s.history ++ x ∷ []; remaining = x ∷ []; progress = state.progress }

  abbrev pub with_unit : State D → ℕ → UnitState D → State D
  with_unit s u state = record { location = s.location; history = s.history; counter = s.counter; units = with_unit_at s.units u state }

  pub asked_keeps : (s : State D) (u : ℕ) (state : UnitState D) (x : D.Statement) (g : D.Guesses) → Lawful D opening s → unit_at s.units u ≡ Some state → D.Fits x → Lawful D opening (with_unit s u (asked s u state x g))
  asked_keeps s u state x g l at fit =
      let new = asked s u state x g in
      let old = l.each u state at in
      let fits : (y : D.Statement) → In y new.script → D.Fits y = λ y i. elim (in_either y (statements_of D u s.history) (x ∷ []) i) [
        | inl j ↦ old.fits y (subst (λ ys. In y ys) old.script (in_front_of y (statements_of D u s.history) state.remaining j))
        | inr j ↦ elim j [ inl e ↦ subst (λ z. D.Fits z) (sym e) fit | inr k ↦ absurd k ]
      ] in
      record {
        counter = l.counter;
        tickets = l.tickets;
        answers = l.answers;
        units = map_set_same (λ y. y.unit) s.units u state new at refl ∙ l.units;
        legal = l.legal;
        each = λ w b e. elim (set_found s.units u w new b e) [
          | inl p ↦ subst (λ (y : UnitState D). UnitLawful D opening s.location s.history w y) p.1
              (subst (λ v. UnitLawful D opening s.location s.history v new) (sym p.0) (record { script = refl; fits = fits; holding = old.holding }))
          | inr p ↦ l.each w b p.1
        ];
        apart = λ v w a b n ea eb. elim (set_found s.units u v new a ea) [
          | inl p ↦ elim (set_found s.units u w new b eb) [
            | inl r ↦ absurd (n (p.0 ∙ sym r.0))
            | inr r ↦ subst (λ (y : UnitState D). AreasShared D y.progress b.progress) p.1 (l.apart u w state b (λ q. r.0 (sym q)) at r.1)
          ]
          | inr p ↦ elim (set_found s.units u w new b eb) [
            | inl r ↦ subst (λ (y : UnitState D). AreasShared D a.progress y.progress) r.1 (l.apart v u a state p.0 p.1 at)
            | inr r ↦ l.apart v w a b n p.1 r.1
          ]
        ];
        home = l.home;
        holder = λ c w e. elim (eqb_tells w u) [
          | inl p ↦
              let h = holder_has_cell D opening s l u state at c (subst (λ v. s.location c ≡ HeldBy v) p.1 e) in
              subst (λ v. IsHolder D (with_unit_at s.units u new) v c) (sym p.1) (record { state = new; found = set_at s.units u state new at; holds = h })
          | inr p ↦
              let h = l.holder c w e in
              record { state = h.state; found = set_elsewhere s.units u w new p.1 ∙ h.found; holds = h.holds }
        ];
      }

  -- the same areas and cells, with no ticket
  abbrev pub unticketed : StatementProgress D → StatementProgress D
  unticketed w = record { exclusive = w.exclusive; areas = w.areas; cells = w.cells; turning_back = false; ticket = None; linked = 0 }

  forgets : (s : State D) (u : ℕ) (state : UnitState D) (w : StatementProgress D) → Lawful D opening s → unit_at s.units u ≡ Some state → state.progress ≡ Some w → SafeUpdate D opening s u s.location (Some (unticketed w))
  unfolding held_cells held_areas ticket_of holds_exclusively
  forgets s u state w l at is =
      let old = subst (λ o. Holding D opening s.location s.history u o) is (l.each u state at).holding in
      record {
        holding = record { held = old.held; values = old.values; in_area = old.in_area; distinct = old.distinct; ticket = λ t e. absurd (cc); due = λ t e. absurd (cc) };
        others = λ c w n e. e;
        back = λ c w n e. e;
        home = l.home;
        holder = λ c e. let h = subst (λ v. HoldsCell D v c) is (holder_has_cell D opening s l u state at c e) in record { which = h.which; is_in = h.is_in; name = h.name };
        share = λ o b n e. subst (λ y. AreasShared D y b.progress) is (l.apart u o state b (λ q. n (sym q)) at e);
      }

  nothing_left : (s : State D) (u : ℕ) (state : UnitState D) (x : Bool) → Lawful D opening s → unit_at s.units u ≡ Some state → state.progress ≡ None → SafeUpdate D opening s u s.location (Some (record { exclusive = x; areas = []; cells = []; turning_back = false; ticket = None; linked = 0 }))
  unfolding held_cells held_areas ticket_of AreDistinct holds_exclusively
  nothing_left s u state x l at none = record {
    holding = record { held = λ h i. absurd i; values = λ h i. absurd i; in_area = λ h i. absurd i; distinct = tt; ticket = λ t e. absurd (cc); due = λ t e h i. absurd i };
    others = λ c w n e. e;
    back = λ c w n e. e;
    home = l.home;
    holder = λ c e. let h = subst (λ v. HoldsCell D v c) none (holder_has_cell D opening s l u state at c e) in absurd h.is_in;
    share = λ w b n e a i j. absurd i;
  }

  -- whether the statement is over or not
  pub forgotten : (s : State D) (u : ℕ) (state : UnitState D) (w : StatementProgress D) → Lawful D opening s → unit_at s.units u ≡ Some state → state.progress ≡ unless_over D w w.areas w.cells → SafeUpdate D opening s u s.location (Some (unticketed w))
  unfolding unless_over
  forgotten s u state w l at is = go w.areas w.cells refl refl
    where
      go : (areas : List ℕ) (cells : List (HeldCell D.Cell D.Value)) → w.areas ≡ areas → w.cells ≡ cells → SafeUpdate D opening s u s.location (Some (unticketed w))
      go [] [] ea ec =
          let none : state.progress ≡ None = is ∙ (ap (λ as_. unless_over D w as_ w.cells) ea ∙ ap (λ cs. unless_over D w [] cs) ec) in
          let same : record { exclusive = w.exclusive; areas = []; cells = []; turning_back = false; ticket = None; linked = 0 } ≡ unticketed w = λ i. record { exclusive = w.exclusive; areas = sym ea i; cells = sym ec i; turning_back = false; ticket = None; linked = 0 } in
          subst (λ (p : StatementProgress D). SafeUpdate D opening s u s.location (Some p)) same (nothing_left s u state w.exclusive l at none)
      go [] (h ∷ hs) ea ec = forgets s u state w l at (is ∙ (ap (λ as_. unless_over D w as_ w.cells) ea ∙ ap (λ cs. unless_over D w [] cs) ec))
      go (a ∷ as_) cells ea ec = forgets s u state w l at (is ∙ ap (λ as_. unless_over D w as_ w.cells) ea)

  -- the state after a whole draw
  pub record Drawn (s : State D) (u : ℕ) (state : UnitState D) (w : StatementProgress D) (x : D.Statement) (t : State D) : Type 0 where
    pub lawful : Lawful D opening t
    pub location : t.location ≡ s.location
    pub history : t.history ≡ s.history ++ record { ticket = s.counter; unit = u; statement = x; answer = (D.effect (replay D opening s.history).database state.unit x).answer } ∷ []
    pub counter : t.counter ≡ suc s.counter
    pub count : length t.units ≡ length s.units
    pub others : (o : ℕ) → o ≢ u → unit_at t.units o ≡ unit_at s.units o
    pub state_now : UnitState D
    pub found : unit_at t.units u ≡ Some state_now
    pub unit_is : state_now.unit ≡ (D.effect (replay D opening s.history).database state.unit x).unit
    pub progress_is : state_now.progress ≡ Some (unticketed (record w { cells = due_cells D (D.effect (replay D opening s.history).database state.unit x).database w.cells }))

  abbrev drawn_once : State D → ℕ → UnitState D → StatementProgress D → D.Statement → D.Guesses → State D
  drawn_once s u state w x g = with_ticket D opening (with_unit s u (asked s u state x g)) u (asked s u state x g) w x []

  abbrev drawn_progress : State D → UnitState D → StatementProgress D → D.Statement → StatementProgress D
  drawn_progress s state w x = record { exclusive = w.exclusive; areas = w.areas; cells = due_cells D (D.effect (replay D opening s.history).database state.unit x).database w.cells; turning_back = false; ticket = Some s.counter; linked = 0 }

  abbrev drawn_unit : State D → ℕ → UnitState D → StatementProgress D → D.Statement → D.Guesses → UnitState D
  drawn_unit s u state w x g = record {
    unit = (D.effect (replay D opening s.history).database state.unit x).unit;
    guesses = D.guesses_after (replay D opening s.history).database state.unit x g;
    script = statements_of D u s.history ++ x ∷ [];
    remaining = [];
    progress = unless_over D (drawn_progress s state w x) w.areas (drawn_progress s state w x).cells;
  }

  pub draws : (s : State D) (u : ℕ) (state : UnitState D) (w : StatementProgress D) (x : D.Statement) (g : D.Guesses) → Lawful D opening s → unit_at s.units u ≡ Some state → state.progress ≡ Some w → D.Fits x →
      D.need (replay D opening s.history).database state.unit x g w.areas w.cells ≡ NeedsNothing → (t : State D) × Drawn s u state w x t
  unfolding with_ticket next_need updated
  draws s u state w x g l at is fit ready =
      let now = asked s u state x g in
      let one = asked_keeps s u state x g l at fit in
      let at_one : unit_at (with_unit_at s.units u now) u ≡ Some now = set_at s.units u state now at in
      let two : Lawful D opening (drawn_once s u state w x g) = ticket_keeps D laws opening (with_unit s u now) u now w x [] one at_one is refl ready in
      let drawn = drawn_unit s u state w x g in
      let at_two : unit_at (drawn_once s u state w x g).units u ≡ Some drawn = set_at (with_unit_at s.units u now) u now drawn at_one in
      let p = drawn_progress s state w x in
      let safe = forgotten (drawn_once s u state w x g) u drawn p two at_two refl in
      let last = updated D (drawn_once s u state w x g) u drawn s.location drawn.guesses (Some (unticketed p)) in (
        last,
        record {
          lawful = safe_update_keeps D opening (drawn_once s u state w x g) u drawn s.location drawn.guesses (Some (unticketed p)) two at_two safe;
          location = refl;
          history = refl;
          counter = refl;
          count = length_with (drawn_once s u state w x g).units u _ ∙ (length_with (with_unit_at s.units u now) u drawn ∙ length_with s.units u now);
          others = λ o n. set_elsewhere (drawn_once s u state w x g).units u o _ n ∙ (set_elsewhere (with_unit_at s.units u now) u o drawn n ∙ set_elsewhere s.units u o now n);
          state_now = record { unit = drawn.unit; guesses = drawn.guesses; script = drawn.script; remaining = drawn.remaining; progress = Some (unticketed p) };
          found = set_at (drawn_once s u state w x g).units u drawn _ at_two;
          unit_is = refl;
          progress_is = refl;
        },
      )
