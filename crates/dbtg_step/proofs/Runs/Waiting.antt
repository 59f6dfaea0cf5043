-- Never stuck: where a unit is in mid-statement, some unit's next step is an event.
use Rattle.std.proofs.Common.{ℕ, zero, suc, ◌≡◌, ◌≢◌, Bool, true, false, eqb, List, [], ◌∷◌, map, Option, Some, None, slice_get, ◌⊎◌, inl, inr, refl, sym, ap, ◌∙◌, subst, arith, lt-ltb, ltb-true, le-ltb}
use Rattle.std.specs.List.{list_any}
use Rattle.std.proofs.lemmas.Bool.Decides.{eqb_tells}
use Rattle.std.proofs.lemmas.Bool.{and_parts, or_cases}
use Rattle.dbtg_step.specs.Machine.SequentialDatabase.{HeldCell, NextNeed, NeedsArea, NeedsCell, StaleGuesses, NeedsNothing, SequentialDatabase, In, unit_at}
use Rattle.dbtg_step.specs.Inside.SequentialDatabase.{IsSequentialDatabase}
use Rattle.dbtg_step.specs.Machine.Machine.{CellLocation, Home, HeldBy, StatementProgress, UnitState, State, SequentialState, held_cells, held_areas, holds_exclusively}
use Rattle.dbtg_step.specs.Machine.Step.{MovedTo, next_need, conflicts, any_but, any_other, takes_area, takes_cell, follows_need, step}
use Rattle.dbtg_step.specs.Machine.Lawful.{AreasShared, HoldsCell, Lawful}
use Rattle.dbtg_step.specs.Machine.NeverStuck.{SomeUnitMoves}
use Rattle.dbtg_step.specs.Inside.NeverStuck.{Wanted, AnArea, ACell, is_below, wanted_by_need, wanted_unless_turning, wanted_before_ticket, wanted_in_progress, wanted, UnitsInOrder, IsStrictOrder}
use Rattle.dbtg_step.proofs.EachEvent.UnitLists.{map_found}
use Rattle.dbtg_step.proofs.EachEvent.UnitFacts.{holder_has_cell}
use Rattle.dbtg_step.proofs.EachEvent.StepCases.{step_after_ticket, step_turns_back, step_follows, follows_area, follows_cell}
use Rattle.dbtg_step.proofs.Runs.Chains.{Higher, climb}

-- where a map has something, the list has what it came from
pub record CameFrom {X Y : Type 0} (f : X → Y) (xs : List X) (u : ℕ) (y : Y) : Type 0 where
  pub it : X
  pub at : unit_at xs u ≡ Some it
  pub is : f it ≡ y

came_from_index : {X Y : Type 0} (f : X → Y) (xs : List X) (i : ℕ) (y : Y) → slice_get (map f xs) i ≡ Some y → (x : X) × (slice_get xs i ≡ Some x) × (f x ≡ y)
came_from_index f [] i y e = absurd (cc)
came_from_index f (x ∷ xs) zero y e = (x, refl, cc)
came_from_index f (x ∷ xs) (suc i) y e = came_from_index f xs i y e

pub came_from : {X Y : Type 0} (f : X → Y) (xs : List X) (u : ℕ) (y : Y) → unit_at (map f xs) u ≡ Some y → CameFrom f xs u y
unfolding unit_at
came_from f xs zero y e = absurd (cc (e))
came_from f xs (suc u) y e = let r = came_from_index f xs u y e in record { it = r.0; at = r.1; is = r.2 }

pub record Other {X : Type 0} (p : X → Bool) (u : ℕ) (xs : List X) : Type 0 where
  pub who : ℕ
  pub it : X
  pub at : unit_at xs who ≡ Some it
  pub other : who ≢ u
  pub passes : p it ≡ true

any_found : {X : Type 0} (p : X → Bool) (xs : List X) → list_any p xs ≡ true → (w : ℕ) × (x : X) × (slice_get xs w ≡ Some x) × (p x ≡ true)
any_found p [] e = absurd (cc)
any_found p (x ∷ xs) e = elim (or_cases (p x) (list_any p xs) e) [ inl h ↦ (0, x, refl, h) | inr h ↦ let r = any_found p xs h in (suc r.0, r.1, r.2, r.3) ]

any_in : (a : ℕ) (xs : List ℕ) → list_any (eqb a) xs ≡ true → In a xs
any_in a [] e = absurd (cc)
any_in a (x ∷ xs) e = elim (or_cases (eqb a x) (list_any (eqb a) xs) e) [
  | inl h ↦ elim (eqb_tells a x) [ inl p ↦ inl p.1 | inr p ↦ absurd (cc (h, p.0)) ]
  | inr h ↦ inr (any_in a xs h)
]

but_found : {X : Type 0} (p : X → Bool) (i : ℕ) (xs : List X) → any_but p i xs ≡ true → (j : ℕ) × (x : X) × (slice_get xs j ≡ Some x) × (j ≢ i) × (p x ≡ true)
unfolding any_but
but_found p i [] e = absurd (cc)
but_found p zero (x ∷ xs) e = let r = any_found p xs e in (suc r.0, r.1, r.2, omega arith, r.3)
but_found p (suc i) (x ∷ xs) e = elim (or_cases (p x) (any_but p i xs) e) [
  | inl h ↦ (0, x, refl, omega arith, h)
  | inr h ↦ let r = but_found p i xs h in (suc r.0, r.1, r.2, (λ q. r.3 (cc (q))), r.4)
]

pub other_found : {X : Type 0} (p : X → Bool) (u : ℕ) (xs : List X) → any_other p u xs ≡ true → Other p u xs
unfolding any_other unit_at
other_found p zero xs e = let r = any_found p xs e in record { who = suc r.0; it = r.1; at = r.2; other = omega arith; passes = r.3 }
other_found p (suc u) xs e = let r = but_found p u xs e in record { who = suc r.0; it = r.1; at = r.2; other = λ q. r.3 (cc (q)); passes = r.4 }

module _ (D : SequentialDatabase) (laws : IsSequentialDatabase D) (opening : SequentialState D) (below : D.Cell → D.Cell → Bool) (order : IsStrictOrder D below) (s : State D) (l : Lawful D opening s) (o : UnitsInOrder D below opening s) where
  -- the unit waits for an area of another
  record WaitsForArea (u : ℕ) (state : UnitState D) : Type 0 where
    a : ℕ
    wanted_is : wanted D below opening s state ≡ Some (AnArea a)
    who : ℕ
    holder : UnitState D
    at : unit_at s.units who ≡ Some holder
    holds : In a (held_areas D holder.progress)

  record WaitsForCell (u : ℕ) (state : UnitState D) : Type 0 where
    c : D.Cell
    wanted_is : wanted D below opening s state ≡ Some (ACell c)
    who : ℕ
    location : s.location c ≡ HeldBy who

  module _ (u : ℕ) (state : UnitState D) (w : StatementProgress D) (at : unit_at s.units u ≡ Some state) (is : state.progress ≡ Some w) where
    wanted_here : (x : D.Statement) (xs : List D.Statement) → w.ticket ≡ None → state.remaining ≡ x ∷ xs → wanted D below opening s state ≡ wanted_unless_turning D below opening s state w x w.turning_back w.cells
    unfolding wanted wanted_in_progress wanted_before_ticket
    wanted_here x xs q r = ap (wanted_in_progress D below opening s state) is ∙ (ap (λ t. wanted_before_ticket D below opening s state w t state.remaining) q ∙ ap (λ y. wanted_before_ticket D below opening s state w None y) r)

    wanted_turned : (x : D.Statement) (b : Bool) (cs : List (HeldCell D.Cell D.Value)) → (b ≡ true → cs ≡ []) → wanted_unless_turning D below opening s state w x b cs ≡ wanted_by_need D below (next_need D opening s state w x)
    unfolding wanted_unless_turning
    wanted_turned x true [] f = refl
    wanted_turned x true (h ∷ hs) f = let e = f refl in absurd (cc)
    wanted_turned x false cs f = refl

    at_need : (x : D.Statement) (xs : List D.Statement) → w.ticket ≡ None → state.remaining ≡ x ∷ xs → (w.turning_back ≡ true → w.cells ≡ []) → (n : NextNeed D.Cell D.Guesses) → next_need D opening s state w x ≡ n → SomeUnitMoves D opening s ⊎ (WaitsForArea u state ⊎ WaitsForCell u state)
    unfolding wanted_by_need next_need follows_need takes_area takes_cell conflicts
    at_need x xs q r f (StaleGuesses g) e = inl (record { who = u; after = _; moves = step_follows D opening s u state at w is x xs q r f _ e })
    at_need x xs q r f NeedsNothing e = inl (record { who = u; after = _; moves = step_follows D opening s u state at w is x xs q r f _ e })
    at_need x xs q r f (NeedsArea a) e = go (any_other (conflicts D w.exclusive a) u s.units) refl
      where
        wanted_a : wanted D below opening s state ≡ Some (AnArea a)
        wanted_a = wanted_here x xs q r ∙ (wanted_turned x w.turning_back w.cells f ∙ ap (wanted_by_need D below) e)

        go : (b : Bool) → any_other (conflicts D w.exclusive a) u s.units ≡ b → SomeUnitMoves D opening s ⊎ (WaitsForArea u state ⊎ WaitsForCell u state)
        go true t =
            let h = other_found (conflicts D w.exclusive a) u s.units t in
            inr (inl (record { a = a; wanted_is = wanted_a; who = h.who; holder = h.it; at = h.at; holds = any_in a (held_areas D h.it.progress) (and_parts _ _ h.passes).0 }))
        go false t = inl (record { who = u; after = _; moves = step_follows D opening s u state at w is x xs q r f _ e ∙ follows_area D opening s u state at w is x xs q r a false t })
    at_need x xs q r f (NeedsCell c) e = go (s.location c) refl
      where
        wanted_c : wanted D below opening s state ≡ Some (ACell c)
        wanted_c = wanted_here x xs q r ∙ (wanted_turned x w.turning_back w.cells f ∙ ap (wanted_by_need D below) e)

        go : (p : CellLocation D.Value) → s.location c ≡ p → SomeUnitMoves D opening s ⊎ (WaitsForArea u state ⊎ WaitsForCell u state)
        go (HeldBy v) p = inr (inr (record { c = c; wanted_is = wanted_c; who = v; location = p }))
        go (Home v) p = inl (record { who = u; after = _; moves = step_follows D opening s u state at w is x xs q r f _ e ∙ follows_cell D opening s u state at w is x xs q r c (Home v) p })

    at_turning : (x : D.Statement) (xs : List D.Statement) → w.ticket ≡ None → state.remaining ≡ x ∷ xs → (b : Bool) (cs : List (HeldCell D.Cell D.Value)) → w.turning_back ≡ b → w.cells ≡ cs → SomeUnitMoves D opening s ⊎ (WaitsForArea u state ⊎ WaitsForCell u state)
    at_turning x xs q r true (h ∷ hs) t e = inl (record { who = u; after = _; moves = step_turns_back D opening s u state at w is x xs q r h hs t e })
    at_turning x xs q r true [] t e = at_need x xs q r (λ _. e) _ refl
    at_turning x xs q r false cs t e = at_need x xs q r (λ y. absurd (cc (y, t))) _ refl

    at_ticket : (t : Option ℕ) → w.ticket ≡ t → SomeUnitMoves D opening s ⊎ (WaitsForArea u state ⊎ WaitsForCell u state)
    at_ticket (Some t) q = inl (record { who = u; after = _; moves = step_after_ticket D opening s u state at w is t q })
    at_ticket None q = let b = (o.each u state w at is).busy q in at_turning b.0 b.1 q b.2 _ _ refl refl

    -- it can go on, or waits for another
    moves_or_waits : SomeUnitMoves D opening s ⊎ (WaitsForArea u state ⊎ WaitsForCell u state)
    moves_or_waits = at_ticket w.ticket refl

  AllWanted : List (Option (Wanted D.Cell))
  AllWanted = map (wanted D below opening s) s.units

  higher_area : (u : ℕ) (state : UnitState D) (r : Wanted D.Cell) (b : ℕ) → unit_at s.units u ≡ Some state → wanted D below opening s state ≡ Some (AnArea b) → is_below D below r (AnArea b) ≡ true → Higher (Wanted D.Cell) (is_below D below) AllWanted r
  unfolding AllWanted
  higher_area u state r b at e h = record { who = u; what = AnArea b; at = map_found (wanted D below opening s) s.units u state at ∙ ap Some e; higher = h }

  higher_cell : (u : ℕ) (state : UnitState D) (r : Wanted D.Cell) (c : D.Cell) → unit_at s.units u ≡ Some state → wanted D below opening s state ≡ Some (ACell c) → is_below D below r (ACell c) ≡ true → Higher (Wanted D.Cell) (is_below D below) AllWanted r
  unfolding AllWanted
  higher_cell u state r c at e h = record { who = u; what = ACell c; at = map_found (wanted D below opening s) s.units u state at ∙ ap Some e; higher = h }

  -- the holder of an area that is waited for
  past_area : (a : ℕ) (v : ℕ) (state : UnitState D) (w : StatementProgress D) → unit_at s.units v ≡ Some state → state.progress ≡ Some w → In a w.areas → SomeUnitMoves D opening s ⊎ Higher (Wanted D.Cell) (is_below D below) AllWanted (AnArea a)
  unfolding is_below
  past_area a v state w at is i = elim (moves_or_waits v state w at is) [
    | inl m ↦ inl m
    | inr (inl b) ↦ inr (higher_area v state (AnArea a) b.a at b.wanted_is (lt-ltb a b.a (((o.each v state w at is).areas b.a b.wanted_is).0 a i)))
    | inr (inr b) ↦ inr (higher_cell v state (AnArea a) b.c at b.wanted_is refl)
  ]

  -- a unit with its areas exclusively waits for no cell
  not_exclusive : (v : ℕ) (state : UnitState D) (w : StatementProgress D) → unit_at s.units v ≡ Some state → state.progress ≡ Some w → (b : WaitsForCell v state) → w.exclusive ≡ true → ⊥
  unfolding held_cells held_areas holds_exclusively
  not_exclusive v state w at is b x =
      let begun = (o.each v state w at is).fresh b.c b.wanted_is in
      let h = l.holder b.c b.who b.location in
      elim (eqb_tells b.who v) [
        | inl p ↦
            let k = subst (λ y. HoldsCell D y b.c) is (holder_has_cell D opening s l v state at b.c (subst (λ n. s.location b.c ≡ HeldBy n) p.1 b.location)) in
            begun.0 k.which k.is_in k.name
        | inr p ↦
            let a = (l.each b.who h.state h.found).holding.in_area h.holds.which h.holds.is_in in
            let share = subst (λ y. AreasShared D y h.state.progress) is (l.apart v b.who state h.state (λ q. p.1 (sym q)) at h.found) in
            let e = share (D.area b.c) begun.1 (subst (λ c. In (D.area c) (held_areas D h.state.progress)) h.holds.name a) in
            let q = e.0 in cc (q, x)
      ]

  -- a step that is an event
  pub record Moves (u : ℕ) : Type 0 where
    pub after : State D
    pub event : step D opening s u ≡ MovedTo after

  -- a unit that holds its areas exclusively, and needs none more, goes on
  pub exclusive_moves : (u : ℕ) (state : UnitState D) (w : StatementProgress D) → unit_at s.units u ≡ Some state → state.progress ≡ Some w → (x : D.Statement) (xs : List D.Statement) → w.ticket ≡ None → state.remaining ≡ x ∷ xs → (w.turning_back ≡ true → w.cells ≡ []) →
      w.exclusive ≡ true → (n : NextNeed D.Cell D.Guesses) → next_need D opening s state w x ≡ n → ((a : ℕ) → n ≡ NeedsArea a → ⊥) → Moves u
  unfolding next_need follows_need takes_cell wanted_by_need
  exclusive_moves u state w at is x xs q r f alone (NeedsArea a) e none = absurd (none a refl)
  exclusive_moves u state w at is x xs q r f alone (StaleGuesses g) e none = record { after = _; event = step_follows D opening s u state at w is x xs q r f _ e }
  exclusive_moves u state w at is x xs q r f alone NeedsNothing e none = record { after = _; event = step_follows D opening s u state at w is x xs q r f _ e }
  exclusive_moves u state w at is x xs q r f alone (NeedsCell c) e none = go (s.location c) refl
    where
      wanted_c : wanted D below opening s state ≡ Some (ACell c)
      wanted_c = wanted_here u state w at is x xs q r ∙ (wanted_turned u state w at is x w.turning_back w.cells f ∙ ap (wanted_by_need D below) e)

      go : (p : CellLocation D.Value) → s.location c ≡ p → Moves u
      go (HeldBy v) p = absurd (not_exclusive u state w at is (record { c = c; wanted_is = wanted_c; who = v; location = p }) alone)
      go (Home v) p = record { after = _; event = step_follows D opening s u state at w is x xs q r f _ e ∙ follows_cell D opening s u state at w is x xs q r c (Home v) p }

  -- the holder of a cell that is waited for
  past_cell : (c : D.Cell) (v : ℕ) (state : UnitState D) (w : StatementProgress D) → unit_at s.units v ≡ Some state → state.progress ≡ Some w → (h : HeldCell D.Cell D.Value) → In h w.cells → h.name ≡ c → SomeUnitMoves D opening s ⊎ Higher (Wanted D.Cell) (is_below D below) AllWanted (ACell c)
  unfolding is_below
  past_cell c v state w at is h i n = elim (moves_or_waits v state w at is) [
    | inl m ↦ inl m
    | inr (inl b) ↦ let e = ((o.each v state w at is).areas b.a b.wanted_is).1 in absurd (subst (λ cs. In h cs) e i)
    | inr (inr b) ↦ elim ((o.each v state w at is).cells b.c b.wanted_is) [
      | inl x ↦ absurd (not_exclusive v state w at is b x)
      | inr f ↦ inr (higher_cell v state (ACell c) b.c at b.wanted_is (subst (λ d. below d b.c ≡ true) n (f h i)))
    ]
  ]

  wanted_nothing : (u : ℕ) (state : UnitState D) (r : Wanted D.Cell) → state.progress ≡ None → wanted D below opening s state ≡ Some r → ⊥
  unfolding wanted wanted_in_progress
  wanted_nothing u state r e q = let h = ap (wanted_in_progress D below opening s state) e in cc (h, q)

  never : (r : Wanted D.Cell) → is_below D below r r ≡ false
  unfolding is_below
  never (AnArea a) = le-ltb a a (omega arith)
  never (ACell c) = order.never c

  chain : (p q r : Wanted D.Cell) → is_below D below p q ≡ true → is_below D below q r ≡ true → is_below D below p r ≡ true
  unfolding is_below
  chain (AnArea a) (AnArea b) (AnArea c) f g = let x = ltb-true a b f in let y = ltb-true b c g in lt-ltb a c (omega arith)
  chain (AnArea a) (AnArea b) (ACell c) f g = refl
  chain (AnArea a) (ACell b) (AnArea c) f g = absurd (cc (g))
  chain (AnArea a) (ACell b) (ACell c) f g = refl
  chain (ACell a) (AnArea b) r f g = absurd (cc (f))
  chain (ACell a) (ACell b) (AnArea c) f g = absurd (cc (g))
  chain (ACell a) (ACell b) (ACell c) f g = order.chain a b c f g

  past_area_of : (a : ℕ) (v : ℕ) (state : UnitState D) → unit_at s.units v ≡ Some state → (x : Option (StatementProgress D)) → state.progress ≡ x → In a (held_areas D x) → SomeUnitMoves D opening s ⊎ Higher (Wanted D.Cell) (is_below D below) AllWanted (AnArea a)
  unfolding held_areas
  past_area_of a v state at None is i = absurd i
  past_area_of a v state at (Some w) is i = past_area a v state w at is i

  past_cell_of : (c : D.Cell) (v : ℕ) (state : UnitState D) → unit_at s.units v ≡ Some state → (x : Option (StatementProgress D)) → state.progress ≡ x → HoldsCell D x c → SomeUnitMoves D opening s ⊎ Higher (Wanted D.Cell) (is_below D below) AllWanted (ACell c)
  unfolding held_cells
  past_cell_of c v state at None is h = absurd h.is_in
  past_cell_of c v state at (Some w) is h = past_cell c v state w at is h.which h.is_in h.name

  -- a unit that waits finds one that moves, or one that waits for more
  next_unit : (u : ℕ) (state : UnitState D) (r : Wanted D.Cell) → unit_at s.units u ≡ Some state → wanted D below opening s state ≡ Some r → (x : Option (StatementProgress D)) → state.progress ≡ x → SomeUnitMoves D opening s ⊎ Higher (Wanted D.Cell) (is_below D below) AllWanted r
  next_unit u state r at e None is = absurd (wanted_nothing u state r is e)
  next_unit u state r at e (Some w) is = elim (moves_or_waits u state w at is) [
    | inl m ↦ inl m
    | inr (inl b) ↦
        let q : AnArea b.a ≡ r = cc (b.wanted_is, e) in
        subst (λ y. SomeUnitMoves D opening s ⊎ Higher (Wanted D.Cell) (is_below D below) AllWanted y) q (past_area_of b.a b.who b.holder b.at b.holder.progress refl b.holds)
    | inr (inr b) ↦
        let q : ACell b.c ≡ r = cc (b.wanted_is, e) in
        let h = l.holder b.c b.who b.location in
        subst (λ y. SomeUnitMoves D opening s ⊎ Higher (Wanted D.Cell) (is_below D below) AllWanted y) q (past_cell_of b.c b.who h.state h.found h.state.progress refl h.holds)
  ]

  next : (u : ℕ) (r : Wanted D.Cell) → unit_at AllWanted u ≡ Some (Some r) → SomeUnitMoves D opening s ⊎ Higher (Wanted D.Cell) (is_below D below) AllWanted r
  unfolding AllWanted
  next u r e = let f = came_from (wanted D below opening s) s.units u (Some r) e in next_unit u f.it r f.at f.is f.it.progress refl

  -- where a unit is in mid-statement, some unit's next step is an event
  pub never_stuck : (u : ℕ) (state : UnitState D) (w : StatementProgress D) → unit_at s.units u ≡ Some state → state.progress ≡ Some w → SomeUnitMoves D opening s
  unfolding AllWanted
  never_stuck u state w at is = elim (moves_or_waits u state w at is) [
    | inl m ↦ m
    | inr (inl b) ↦ climb (Wanted D.Cell) (is_below D below) never chain (SomeUnitMoves D opening s) AllWanted next u (AnArea b.a) (map_found (wanted D below opening s) s.units u state at ∙ ap Some b.wanted_is)
    | inr (inr b) ↦ climb (Wanted D.Cell) (is_below D below) never chain (SomeUnitMoves D opening s) AllWanted next u (ACell b.c) (map_found (wanted D below opening s) s.units u state at ∙ ap Some b.wanted_is)
  ]
