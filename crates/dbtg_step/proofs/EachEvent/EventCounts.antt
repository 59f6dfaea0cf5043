-- A statement that is never blocked and never turns back has 2 + 2a + 3c events.
use Rattle.std.proofs.Common.{ℕ, zero, suc, ◌+◌, ◌*◌, ◌≡◌, ◌≤◌, Bool, true, false, ◌||◌, List, [], ◌∷◌, length, Some, None, slice_set, option_and_then, refl, sym, ap, ◌∙◌, subst, arith, lt-ltb, le-ltb, inl, inr}
use Rattle.dbtg_step.specs.Machine.SequentialDatabase.{HeldCell, NextNeed, NeedsArea, NeedsCell, NeedsNothing, SequentialDatabase, NamesCells, NotAmong, unit_at, with_unit_at}
use Rattle.dbtg_step.specs.Machine.Machine.{CellLocation, Home, HeldBy, StatementProgress, UnitState, State, SequentialState, replay, relocated, begun, unless_over}
use Rattle.dbtg_step.specs.Machine.Step.{next_need, any_but, any_other, conflicts, updated, with_progress, with_ticket, due_cells, after_ticket, takes_area, takes_cell, follows_need, step, MovedTo}
use Rattle.dbtg_step.specs.Machine.EventCount.{progress_of, IsOverAfter, HasEvents, TakesAlone, NoneTaken, AreaTaken, CellTaken}
use Rattle.dbtg_step.proofs.EachEvent.UnitLists.{set_at, relocated_elsewhere, set_again}
use Rattle.dbtg_step.proofs.EachEvent.StepCases.{step_begins, step_after_ticket, step_follows}

but_set : {X : Type 0} (p : X → Bool) (i : ℕ) (xs : List X) (x : X) → any_but p i (slice_set xs i x) ≡ any_but p i xs
unfolding any_but
but_set p i [] x = refl
but_set p zero (y ∷ ys) x = refl
but_set p (suc i) (y ∷ ys) x = ap (λ b. p y || b) (but_set p i ys x)

other_set : {X : Type 0} (p : X → Bool) (u : ℕ) (xs : List X) (x : X) → any_other p u (with_unit_at xs u x) ≡ any_other p u xs
unfolding any_other with_unit_at
other_set p zero xs x = refl
other_set p (suc u) xs x = but_set p u xs x

module _ (D : SequentialDatabase) (names : NamesCells D) (opening : SequentialState D) (u : ℕ) where
  progress_here : (s : State D) (state : UnitState D) → unit_at s.units u ≡ Some state → progress_of D s u ≡ state.progress
  progress_here s state at = ap (option_and_then (λ (y : UnitState D). y.progress)) at

  -- AFTER THE TICKET

  goes_on : (n m : ℕ) → m ≡ suc n → (s t : State D) (state : UnitState D) (w : StatementProgress D) → unit_at s.units u ≡ Some state → state.progress ≡ Some w → step D opening s u ≡ MovedTo t → IsOverAfter D opening u n t → IsOverAfter D opening u m s
  unfolding IsOverAfter
  goes_on n m e s t state w at is moves over = subst (λ k. IsOverAfter D opening u k s) (sym e) ((w, progress_here s state at ∙ is), (t, moves, over))

  in_all : (m n : ℕ) (s : State D) → m ≡ n → IsOverAfter D opening u m s → IsOverAfter D opening u n s
  in_all m n s e over = subst (λ k. IsOverAfter D opening u k s) e over

  after_is : (s : State D) (state : UnitState D) (w : StatementProgress D) (b b' : Bool) (cells cells' : List (HeldCell D.Cell D.Value)) (areas areas' : List ℕ) → b ≡ b' → cells ≡ cells' → areas ≡ areas' → after_ticket D s u state w b cells areas ≡ after_ticket D s u state w b' cells' areas'
  after_is s state w b b' cells cells' areas areas' e f g = λ i. after_ticket D s u state w (e i) (f i) (g i)

  -- all is linked: the cells go back, then the areas are left
  gives_back : (cells : List (HeldCell D.Cell D.Value)) (areas : List ℕ) (s : State D) (state : UnitState D) (w : StatementProgress D) (t : ℕ) → unit_at s.units u ≡ Some state → state.progress ≡ unless_over D w areas cells → w.ticket ≡ Some t → w.cells ≡ cells → w.areas ≡ areas → length cells ≤ w.linked → IsOverAfter D opening u (length cells + length areas) s
  unfolding unless_over after_ticket updated IsOverAfter
  gives_back [] [] s state w t at is ticket cs as_ l = progress_here s state at ∙ is
  gives_back [] (a ∷ areas) s state w t at is ticket cs as_ l =
      goes_on _ _ (omega arith) s _ state w at is
      (step_after_ticket D opening s u state at w is t ticket ∙ ap MovedTo (after_is s state w _ false _ [] _ (a ∷ areas) (le-ltb w.linked (length w.cells) (rw cs (omega arith))) cs as_))
      (gives_back [] areas _ _ (record w { areas = areas }) t (set_at s.units u state _ at) refl ticket cs refl l)
  gives_back (h ∷ hs) areas s state w t at is ticket cs as_ l =
      goes_on _ _ (omega arith) s _ state w at (is ∙ some areas)
      (step_after_ticket D opening s u state at w (is ∙ some areas) t ticket ∙ ap MovedTo (after_is s state w _ false _ (h ∷ hs) _ areas (le-ltb w.linked (length w.cells) (rw cs l)) cs as_))
      (gives_back hs areas _ _ (record w { cells = hs }) t (set_at s.units u state _ at) refl ticket refl as_ (omega arith))
    where
      some : (xs : List ℕ) → unless_over D w xs (h ∷ hs) ≡ Some w
      some [] = refl
      some (x ∷ xs) = refl

  -- k cells are left to link
  links : (k : ℕ) (s : State D) (state : UnitState D) (w : StatementProgress D) (t : ℕ) → unit_at s.units u ≡ Some state → state.progress ≡ Some w → w.ticket ≡ Some t → unless_over D w w.areas w.cells ≡ Some w → k + w.linked ≡ length w.cells → IsOverAfter D opening u (k + (length w.cells + length w.areas)) s
  unfolding after_ticket updated unless_over
  links zero s state w t at is ticket more l = in_all (length w.cells + length w.areas) _ s (omega arith) (gives_back w.cells w.areas s state w t at (is ∙ sym more) ticket refl refl (omega (arith, l)))
  links (suc k) s state w t at is ticket more l =
      let next = record w { linked = suc w.linked } in
      goes_on _ _ (omega arith) s _ state w at is
      (step_after_ticket D opening s u state at w is t ticket ∙ ap MovedTo (after_is s state w _ true _ w.cells _ w.areas (lt-ltb w.linked (length w.cells) (omega (arith, l))) refl refl))
      (links k _ _ next t (set_at s.units u state _ at) refl ticket (holds_on w next w.areas w.cells more) (omega (arith, l)))
    where
      holds_on : (w v : StatementProgress D) (areas : List ℕ) (cells : List (HeldCell D.Cell D.Value)) → unless_over D w areas cells ≡ Some w → unless_over D v areas cells ≡ Some v
      holds_on w v [] [] e = absurd (cc (e))
      holds_on w v [] (h ∷ hs) e = refl
      holds_on w v (a ∷ areas) cells e = refl

  -- it has just drawn its ticket
  from_ticket : (s : State D) (state : UnitState D) (w : StatementProgress D) (t : ℕ) → unit_at s.units u ≡ Some state → state.progress ≡ unless_over D w w.areas w.cells → w.ticket ≡ Some t → w.linked ≡ 0 → IsOverAfter D opening u (length w.cells + (length w.cells + length w.areas)) s
  unfolding unless_over IsOverAfter
  from_ticket s state w t at is ticket l = go w.areas w.cells refl refl
    where
      linking : unless_over D w w.areas w.cells ≡ Some w → IsOverAfter D opening u (length w.cells + (length w.cells + length w.areas)) s
      linking more = links (length w.cells) s state w t at (is ∙ more) ticket more (omega (arith, l))

      go : (areas : List ℕ) (cells : List (HeldCell D.Cell D.Value)) → w.areas ≡ areas → w.cells ≡ cells → IsOverAfter D opening u (length w.cells + (length w.cells + length w.areas)) s
      go [] [] as_ cs = in_all 0 _ s (rw (as_, cs) refl) (progress_here s state at ∙ (is ∙ λ i. unless_over D w (as_ i) (cs i)))
      go [] (h ∷ hs) as_ cs = linking (λ i. unless_over D w (as_ i) (cs i))
      go (a ∷ areas) cells as_ cs = linking (λ i. unless_over D w (as_ i) (cs i))

  due_length : (db : D.Db) (cells : List (HeldCell D.Cell D.Value)) → length (due_cells D db cells) ≡ length cells
  unfolding due_cells
  due_length db [] = refl
  due_length db (h ∷ hs) = ap suc (due_length db hs)

  -- BEFORE THE TICKET

  module _ (s : State D) (state : UnitState D) (at : unit_at s.units u ≡ Some state) (x : D.Statement) (xs : List D.Statement) (rest : state.remaining ≡ x ∷ xs) where
    taking : List ℕ → List (HeldCell D.Cell D.Value) → StatementProgress D
    taking areas cells = record { exclusive = D.is_exclusive x; areas = areas; cells = cells; turning_back = false; ticket = None; linked = 0 }

    taken_from : List (HeldCell D.Cell D.Value) → D.Cell → CellLocation D.Value
    taken_from [] = s.location
    taken_from (h ∷ hs) = relocated D (taken_from hs) h.name (HeldBy u)

    -- the state in which the unit has taken these
    having : List ℕ → List (HeldCell D.Cell D.Value) → State D
    having areas cells = updated D s u state (taken_from cells) state.guesses (Some (taking areas cells))

    its : List ℕ → List (HeldCell D.Cell D.Value) → UnitState D
    its areas cells = with_progress D state state.guesses (Some (taking areas cells))

    still_home : (c : D.Cell) (cells : List (HeldCell D.Cell D.Value)) → NotAmong D c cells → taken_from cells c ≡ s.location c
    unfolding taken_from
    still_home c [] n = refl
    still_home c (h ∷ hs) n = relocated_elsewhere D names (taken_from hs) h.name c (HeldBy u) (λ q. n h (inl refl) (sym q)) ∙ still_home c hs (λ k i. n k (inr i))

    found_having : (areas : List ℕ) (cells : List (HeldCell D.Cell D.Value)) → unit_at (having areas cells).units u ≡ Some (its areas cells)
    unfolding having updated its
    found_having areas cells = set_at s.units u state _ at

    needs : (areas : List ℕ) (cells : List (HeldCell D.Cell D.Value)) (n : NextNeed D.Cell D.Guesses) → D.need (replay D opening s.history).database state.unit x state.guesses areas cells ≡ n →
        step D opening (having areas cells) u ≡ follows_need D opening (having areas cells) u (its areas cells) (taking areas cells) x xs n
    unfolding having updated its taking next_need
    needs areas cells n e = step_follows D opening (having areas cells) u (its areas cells) (found_having areas cells) (taking areas cells) refl x xs refl rest (λ q. absurd (cc (q))) n e

    -- an update after an update
    again : (areas areas' : List ℕ) (cells cells' : List (HeldCell D.Cell D.Value)) (location : D.Cell → CellLocation D.Value) → location ≡ taken_from cells' →
        updated D (having areas cells) u (its areas cells) location state.guesses (Some (taking areas' cells')) ≡ having areas' cells'
    unfolding having updated its
    again areas areas' cells cells' location e = λ i. record { location = e i; history = s.history; counter = s.counter; units = set_again s.units u (its areas cells) (its areas' cells') i }

    takes_an_area : (areas : List ℕ) (cells : List (HeldCell D.Cell D.Value)) (a : ℕ) → D.need (replay D opening s.history).database state.unit x state.guesses areas cells ≡ NeedsArea a → any_other (conflicts D (D.is_exclusive x) a) u s.units ≡ false →
        step D opening (having areas cells) u ≡ MovedTo (having (a ∷ areas) cells)
    unfolding follows_need takes_area taking having updated its
    takes_an_area areas cells a e f =
        needs areas cells (NeedsArea a) e
        ∙ (ap (takes_area D (having areas cells) u (its areas cells) (taking areas cells) a) (free ∙ f) ∙ ap MovedTo (again areas (a ∷ areas) cells cells _ refl))
      where
        free : any_other (conflicts D (D.is_exclusive x) a) u (having areas cells).units ≡ any_other (conflicts D (D.is_exclusive x) a) u s.units
        free = other_set (conflicts D (D.is_exclusive x) a) u s.units (its areas cells)

    takes_a_cell : (areas : List ℕ) (cells : List (HeldCell D.Cell D.Value)) (h : HeldCell D.Cell D.Value) → D.need (replay D opening s.history).database state.unit x state.guesses areas cells ≡ NeedsCell h.name → s.location h.name ≡ Home h.value →
        step D opening (having areas cells) u ≡ MovedTo (having areas (h ∷ cells))
    unfolding follows_need takes_cell taking taken_from having updated its
    takes_a_cell areas cells h e f =
        needs areas cells (NeedsCell h.name) e
        ∙ (ap (takes_cell D (having areas cells) u (its areas cells) (taking areas cells) h.name) (still_home h.name cells (names.fresh _ state.unit x state.guesses areas cells h.name e) ∙ f) ∙ ap MovedTo (again areas areas cells (h ∷ cells) _ refl))

    -- from the last of them back to the first
    to_the_first : (n : ℕ) (areas : List ℕ) (cells : List (HeldCell D.Cell D.Value)) → TakesAlone D opening s u state x areas cells → IsOverAfter D opening u n (having areas cells) → IsOverAfter D opening u (length areas + length cells + n) (having [] [])
    unfolding its
    to_the_first n _ _ NoneTaken over = in_all n _ _ (omega arith) over
    to_the_first n _ _ (AreaTaken {areas} {cells} {a} taken e f) over =
        in_all (length areas + length cells + suc n) _ _ (omega arith)
        (to_the_first (suc n) areas cells taken (goes_on _ _ refl _ _ _ _ (found_having areas cells) refl (takes_an_area areas cells a e f) over))
    to_the_first n _ _ (CellTaken {areas} {cells} {h} taken e f) over =
        in_all (length areas + length cells + suc n) _ _ (omega arith)
        (to_the_first (suc n) areas cells taken (goes_on _ _ refl _ _ _ _ (found_having areas cells) refl (takes_a_cell areas cells h e f) over))

    ticket_drawn : (areas : List ℕ) (cells : List (HeldCell D.Cell D.Value)) → D.need (replay D opening s.history).database state.unit x state.guesses areas cells ≡ NeedsNothing →
        IsOverAfter D opening u (suc (length cells + (length cells + length areas))) (having areas cells)
    unfolding its follows_need with_ticket taking
    ticket_drawn areas cells e =
        let drawn = with_ticket D opening (having areas cells) u (its areas cells) (taking areas cells) x xs in
        let db = (D.effect (replay D opening (having areas cells).history).database state.unit x).database in
        let same = due_length db cells in
        goes_on _ _ refl _ drawn _ _ (found_having areas cells) refl (needs areas cells NeedsNothing e)
        (in_all _ _ drawn (rw same refl) (from_ticket drawn _ _ (having areas cells).counter (set_at (having areas cells).units u _ _ (found_having areas cells)) refl refl refl))

  pub events_are_counted : (s : State D) → (state : UnitState D) (x : D.Statement) (xs : List D.Statement) (areas : List ℕ) (cells : List (HeldCell D.Cell D.Value)) →
      unit_at s.units u ≡ Some state → state.progress ≡ None → state.remaining ≡ x ∷ xs → TakesAlone D opening s u state x areas cells →
      D.need (replay D opening s.history).database state.unit x state.guesses areas cells ≡ NeedsNothing →
      HasEvents D opening u (2 + 2 * length areas + 3 * length cells) s
  unfolding HasEvents having taking taken_from begun
  events_are_counted s state x xs areas cells at none rest taken ready =
      let n = suc (length cells + (length cells + length areas)) in
      let all : IsOverAfter D opening u (length areas + length cells + n) (having s state at x xs rest [] []) = to_the_first s state at x xs rest n areas cells taken (ticket_drawn s state at x xs rest areas cells ready) in
      let count : suc (length areas + length cells + n) ≡ 2 + 2 * length areas + 3 * length cells = omega arith in
      subst (λ k. HasEvents D opening u k s) count (having s state at x xs rest [] [], step_begins D opening s u state at x xs none rest, all)
