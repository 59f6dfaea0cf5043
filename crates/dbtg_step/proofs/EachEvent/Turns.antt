-- Each event keeps the order in which areas and cells were taken.
use Rattle.std.proofs.Common.{ℕ, ◌≡◌, Bool, true, false, List, [], ◌∷◌, Option, Some, None, inl, inr, refl, sym, ap, ◌∙◌, subst}
use Rattle.dbtg_step.specs.Machine.SequentialDatabase.{HeldCell, NextNeed, NeedsArea, NeedsCell, StaleGuesses, NeedsNothing, SequentialDatabase, Agrees, unit_at, with_unit_at}
use Rattle.dbtg_step.specs.Machine.Machine.{CellLocation, Home, HeldBy, StatementProgress, UnitState, State, SequentialState, replay, held_cells, begun, unless_over}
use Rattle.dbtg_step.specs.Machine.Step.{next_need, with_progress, updated, conflicts, any_other, is_nonempty, with_ticket, after_ticket, takes_area, takes_cell, follows_need, before_ticket, in_statement, step_of_unit, step_if_unit, step, quit_unless_ticket, quit_of_unit, quit_if_unit, quit}
use Rattle.dbtg_step.specs.Inside.Step.{IfMoved}
use Rattle.dbtg_step.specs.Machine.NeverStuck.{MayGoOn, TakenInTurn, NoneYet, AreaNext, CellNext, NeedsInOrder}
use Rattle.dbtg_step.specs.Inside.NeverStuck.{InTurn, AllInTurn}
use Rattle.dbtg_step.specs.Machine.Lawful.{Lawful}
use Rattle.dbtg_step.proofs.EachEvent.UnitFacts.{may_make}
use Rattle.dbtg_step.proofs.EachEvent.UnitLists.{set_found}

module _ (D : SequentialDatabase) (below : D.Cell → D.Cell → Bool) (order : NeedsInOrder D below) (opening : SequentialState D) (s : State D) (l : Lawful D opening s) (o : AllInTurn D below s) (u : ℕ) where
  -- what the stepping unit has to meet after the event
  MeetsTurn : UnitState D → Option (StatementProgress D) → Type 0
  MeetsTurn state progress = (w : StatementProgress D) → progress ≡ Some w → w.ticket ≡ None → InTurn D below state w

  unit_in_turn : (location : D.Cell → CellLocation D.Value) (history : List (_)) (counter : ℕ) (new : UnitState D) → MeetsTurn new new.progress → AllInTurn D below (record { location = location; history = history; counter = counter; units = with_unit_at s.units u new })
  unfolding MeetsTurn
  unit_in_turn location history counter new f = record {
    each = λ v b w e i t. elim (set_found s.units u v new b e) [
      | inl p ↦ subst (λ (y : UnitState D). InTurn D below y w) p.1 (f w (ap (λ (y : UnitState D). y.progress) p.1 ∙ i) t)
      | inr p ↦ o.each v b w p.1 i t
    ];
  }

  update_in_turn : (state : UnitState D) (location : D.Cell → CellLocation D.Value) (g : D.Guesses) (progress : Option (StatementProgress D)) → MeetsTurn (with_progress D state g progress) progress → AllInTurn D below (updated D s u state location g progress)
  unfolding updated
  update_in_turn state location g progress f = unit_in_turn location s.history s.counter (with_progress D state g progress) f

  -- with a ticket nothing is asked
  over_meets : (state : UnitState D) (w : StatementProgress D) (areas : List ℕ) (cells : List (HeldCell D.Cell D.Value)) (t : ℕ) → w.ticket ≡ Some t → MeetsTurn state (unless_over D w areas cells)
  unfolding MeetsTurn unless_over
  over_meets state w [] [] t e v q n = absurd (cc (q))
  over_meets state w [] (h ∷ hs) t e v q n = let k : w ≡ v = cc in let z = ap (λ (y : StatementProgress D). y.ticket) k in absurd (cc (e, z, n))
  over_meets state w (a ∷ areas) cells t e v q n = let k : w ≡ v = cc in let z = ap (λ (y : StatementProgress D). y.ticket) k in absurd (cc (e, z, n))

  some_meets : (state : UnitState D) (w : StatementProgress D) → (w.ticket ≡ None → InTurn D below state w) → MeetsTurn state (Some w)
  unfolding MeetsTurn
  some_meets state w f v q n = let k : w ≡ v = cc in subst (λ y. InTurn D below state y) k (f (ap (λ (y : StatementProgress D). y.ticket) k ∙ n))

  some_ticketed : (state : UnitState D) (w : StatementProgress D) (t : ℕ) → w.ticket ≡ Some t → MeetsTurn state (Some w)
  some_ticketed state w t e = some_meets state w (λ n. absurd (cc (e, n)))

  none_meets : (state : UnitState D) → MeetsTurn state None
  unfolding MeetsTurn
  none_meets state v q n = absurd (cc (q))

  after_ticket_in_turn : (state : UnitState D) (w : StatementProgress D) (t : ℕ) → w.ticket ≡ Some t → (more : Bool) (cells : List (HeldCell D.Cell D.Value)) (areas : List ℕ) → AllInTurn D below (after_ticket D s u state w more cells areas)
  unfolding after_ticket
  after_ticket_in_turn state w t e true cells areas = update_in_turn state _ _ _ (some_ticketed _ _ t e)
  after_ticket_in_turn state w t e false (h ∷ hs) areas = update_in_turn state _ _ _ (over_meets _ (record w { cells = hs }) areas hs t e)
  after_ticket_in_turn state w t e false [] (a ∷ areas) = update_in_turn state _ _ _ (over_meets _ (record w { areas = areas }) areas [] t e)
  after_ticket_in_turn state w t e false [] [] = update_in_turn state _ _ _ (none_meets _)

  begin_in_turn : (state : UnitState D) (x : D.Statement) (xs : List D.Statement) → state.remaining ≡ x ∷ xs → AllInTurn D below (updated D s u state s.location state.guesses (Some (begun D x)))
  unfolding begun
  begin_in_turn state x xs r = update_in_turn state _ _ _ (some_meets _ _ (λ n. record { x = x; xs = xs; remaining = r; exclusive = refl; going = λ _. NoneYet; back = λ _. NoneYet }))

  module _ (state : UnitState D) (at : unit_at s.units u ≡ Some state) (w : StatementProgress D) (is : state.progress ≡ Some w) (mid : InTurn D below state w) where
    -- it doesn't turn back, or has turned back: what is held was taken in turn
    taken : (w.turning_back ≡ true → w.cells ≡ []) → TakenInTurn D below state.unit mid.x state.guesses w.areas w.cells
    taken f = go w.turning_back refl
      where
        go : (b : Bool) → w.turning_back ≡ b → TakenInTurn D below state.unit mid.x state.guesses w.areas w.cells
        go true e = subst (λ cs. TakenInTurn D below state.unit mid.x state.guesses w.areas cs) (sym (f e)) (mid.back e)
        go false e = mid.going e

    abbrev db : D.Db
    db = (replay D opening s.history).database

    -- the database of the history is one on which it may go on with one more cell that was at home
    may_go_on : (c : D.Cell) (v : D.Value) → s.location c ≡ Home v → MayGoOn D below db state.unit mid.x (record { name = c; value = v } ∷ w.cells)
    unfolding held_cells
    may_go_on c v h = record {
      units = _;
      u = u;
      may = may_make D opening s l u state at mid.x mid.xs mid.remaining;
      agrees = λ k i. elim i [
        | inl q ↦ subst (λ (y : HeldCell D.Cell D.Value). y.value ≡ D.cell db y.name) (sym q) (l.home c v h)
        | inr j ↦ subst (λ p. Agrees D db (held_cells D p)) is (l.each u state at).holding.values k j
      ];
    }

    area_in_turn : (a : ℕ) → (w.turning_back ≡ true → w.cells ≡ []) → D.need db state.unit mid.x state.guesses w.areas w.cells ≡ NeedsArea a → AllInTurn D below (updated D s u state s.location state.guesses (Some (record w { areas = a ∷ w.areas })))
    area_in_turn a f e =
        let n = taken f in
        let none = (order.area_above db state.unit mid.x state.guesses w.areas w.cells a n e).1 in
        let n2 : TakenInTurn D below state.unit mid.x state.guesses w.areas [] = subst (λ cs. TakenInTurn D below state.unit mid.x state.guesses w.areas cs) none n in
        let e2 : D.need db state.unit mid.x state.guesses w.areas [] ≡ NeedsArea a = subst (λ cs. D.need db state.unit mid.x state.guesses w.areas cs ≡ NeedsArea a) none e in
        let more : TakenInTurn D below state.unit mid.x state.guesses (a ∷ w.areas) [] = AreaNext db n2 e2 in
        update_in_turn state _ _ _ (some_meets _ _ (λ _. record { x = mid.x; xs = mid.xs; remaining = mid.remaining; exclusive = mid.exclusive; going = λ _. subst (λ cs. TakenInTurn D below state.unit mid.x state.guesses (a ∷ w.areas) cs) (sym none) more; back = λ _. more }))

    cell_in_turn : (location : D.Cell → CellLocation D.Value) (c : D.Cell) (v : D.Value) → s.location c ≡ Home v → (w.turning_back ≡ true → w.cells ≡ []) → D.need db state.unit mid.x state.guesses w.areas w.cells ≡ NeedsCell c → AllInTurn D below (updated D s u state location state.guesses (Some (record w { cells = record { name = c; value = v } ∷ w.cells })))
    cell_in_turn location c v h f e =
        update_in_turn state _ _ _ (some_meets _ _ (λ _. record { x = mid.x; xs = mid.xs; remaining = mid.remaining; exclusive = mid.exclusive; going = λ _. CellNext db (taken f) (may_go_on c v h) e; back = mid.back }))

    more_not : {X : Type 0} (xs : List X) → is_nonempty xs ≡ false → xs ≡ []
    more_not [] e = refl
    more_not (x ∷ xs) e = absurd (cc (e))

    stale_in_turn : (g : D.Guesses) → (w.turning_back ≡ true → w.cells ≡ []) → AllInTurn D below (updated D s u state s.location g (Some (record w { turning_back = is_nonempty w.cells })))
    stale_in_turn g f =
        let stay = order.areas_stay state.unit mid.x state.guesses g w.areas w.cells (taken f) in
        update_in_turn state _ _ _ (some_meets _ _ (λ _. record { x = mid.x; xs = mid.xs; remaining = mid.remaining; exclusive = mid.exclusive; going = λ q. subst (λ cs. TakenInTurn D below state.unit mid.x g w.areas cs) (sym (more_not w.cells q)) stay; back = λ _. stay }))

    back_in_turn : (location : D.Cell → CellLocation D.Value) (hs : List (HeldCell D.Cell D.Value)) → w.turning_back ≡ true → AllInTurn D below (updated D s u state location state.guesses (Some (record w { cells = hs; turning_back = is_nonempty hs })))
    back_in_turn location hs t =
        update_in_turn state _ _ _ (some_meets _ _ (λ _. record { x = mid.x; xs = mid.xs; remaining = mid.remaining; exclusive = mid.exclusive; going = λ q. subst (λ cs. TakenInTurn D below state.unit mid.x state.guesses w.areas cs) (sym (more_not hs q)) (mid.back t); back = λ _. mid.back t }))

    ticket_in_turn : (x : D.Statement) (xs : List D.Statement) → AllInTurn D below (with_ticket D opening s u state w x xs)
    unfolding with_ticket
    ticket_in_turn x xs = unit_in_turn _ _ _ _ (over_meets _ _ _ _ s.counter refl)

    follows_need_in_turn : (f : w.turning_back ≡ true → w.cells ≡ []) (n : NextNeed D.Cell D.Guesses) → next_need D opening s state w mid.x ≡ n → IfMoved D (follows_need D opening s u state w mid.x mid.xs n) (AllInTurn D below)
    unfolding follows_need next_need IfMoved takes_area takes_cell
    follows_need_in_turn f (NeedsArea a) e = go (any_other (conflicts D w.exclusive a) u s.units)
      where
        go : (b : Bool) → IfMoved D (takes_area D s u state w a b) (AllInTurn D below)
        go true = tt
        go false = area_in_turn a f e
    follows_need_in_turn f (NeedsCell c) e = go (s.location c) refl
      where
        go : (p : CellLocation D.Value) → s.location c ≡ p → IfMoved D (takes_cell D s u state w c p) (AllInTurn D below)
        go (HeldBy v) h = tt
        go (Home v) h = cell_in_turn _ c v h f e
    follows_need_in_turn f (StaleGuesses g) e = stale_in_turn g f
    follows_need_in_turn f NeedsNothing e = ticket_in_turn mid.x mid.xs

    before_ticket_in_turn : (turning_back : Bool) (cells : List (HeldCell D.Cell D.Value)) → w.turning_back ≡ turning_back → w.cells ≡ cells → IfMoved D (before_ticket D opening s u state w mid.x mid.xs turning_back cells) (AllInTurn D below)
    unfolding before_ticket IfMoved
    before_ticket_in_turn true (h ∷ hs) t c = back_in_turn _ hs t
    before_ticket_in_turn true [] t c = follows_need_in_turn (λ _. c) _ refl
    before_ticket_in_turn false cells t c = follows_need_in_turn (λ q. absurd (cc (q, t))) _ refl

  in_statement_in_turn : (state : UnitState D) (w : StatementProgress D) → unit_at s.units u ≡ Some state → state.progress ≡ Some w → (t : Option ℕ) → w.ticket ≡ t → IfMoved D (in_statement D opening s u state w t state.remaining) (AllInTurn D below)
  unfolding in_statement IfMoved
  in_statement_in_turn state w at is (Some t) e = after_ticket_in_turn state w t e _ _ _
  in_statement_in_turn state w at is None e =
      let m = o.each u state w at is e in
      subst (λ r. IfMoved D (in_statement D opening s u state w None r) (AllInTurn D below)) (sym m.remaining) (before_ticket_in_turn state at w is m w.turning_back w.cells refl refl)

  step_of_unit_in_turn : (state : UnitState D) → unit_at s.units u ≡ Some state → (x : Option (StatementProgress D)) (remaining : List D.Statement) → state.progress ≡ x → state.remaining ≡ remaining → IfMoved D (step_of_unit D opening s u state x remaining) (AllInTurn D below)
  unfolding step_of_unit IfMoved
  step_of_unit_in_turn state at (Some w) remaining is r = subst (λ y. IfMoved D (in_statement D opening s u state w w.ticket y) (AllInTurn D below)) r (in_statement_in_turn state w at is w.ticket refl)
  step_of_unit_in_turn state at None (x ∷ xs) is r = begin_in_turn state x xs r
  step_of_unit_in_turn state at None [] is r = tt

  step_if_unit_in_turn : (x : Option (UnitState D)) → unit_at s.units u ≡ x → IfMoved D (step_if_unit D opening s u x) (AllInTurn D below)
  unfolding step_if_unit IfMoved
  step_if_unit_in_turn None at = tt
  step_if_unit_in_turn (Some state) at = step_of_unit_in_turn state at state.progress state.remaining refl refl

  pub step_in_turn : IfMoved D (step D opening s u) (AllInTurn D below)
  unfolding step
  step_in_turn = step_if_unit_in_turn (unit_at s.units u) refl

  quit_unless_ticket_in_turn : (state : UnitState D) (w : StatementProgress D) (t : Option ℕ) → IfMoved D (quit_unless_ticket D s u state w t) (AllInTurn D below)
  unfolding quit_unless_ticket IfMoved
  quit_unless_ticket_in_turn state w (Some t) = tt
  quit_unless_ticket_in_turn state w None = update_in_turn state _ _ None (none_meets _)

  quit_of_unit_in_turn : (state : UnitState D) (x : Option (StatementProgress D)) → IfMoved D (quit_of_unit D s u state x) (AllInTurn D below)
  unfolding quit_of_unit IfMoved
  quit_of_unit_in_turn state None = tt
  quit_of_unit_in_turn state (Some w) = quit_unless_ticket_in_turn state w w.ticket

  quit_if_unit_in_turn : (x : Option (UnitState D)) → IfMoved D (quit_if_unit D s u x) (AllInTurn D below)
  unfolding quit_if_unit IfMoved
  quit_if_unit_in_turn None = tt
  quit_if_unit_in_turn (Some state) = quit_of_unit_in_turn state state.progress

  pub quit_in_turn : IfMoved D (quit D s u) (AllInTurn D below)
  unfolding quit
  quit_in_turn = quit_if_unit_in_turn (unit_at s.units u)
