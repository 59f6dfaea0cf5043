-- The law: each event keeps what is lawful.
use Rattle.std.proofs.Common.{ℕ, ◌≡◌, Bool, true, false, ltb, List, [], ◌∷◌, length, Option, Some, None, refl, subst, ap}
use Rattle.dbtg_step.specs.Machine.SequentialDatabase.{HeldCell, SequentialDatabase, NextNeed, NeedsArea, NeedsCell, StaleGuesses, NeedsNothing, In, unit_at}
use Rattle.dbtg_step.specs.Inside.SequentialDatabase.{IsSequentialDatabase}
use Rattle.dbtg_step.specs.Machine.Machine.{CellLocation, Home, HeldBy, StatementProgress, UnitState, State, SequentialState, replay, unless_over}
use Rattle.dbtg_step.specs.Machine.Step.{next_need, conflicts, any_other, Transition, MovedTo, IsBlocked, IsIdle, after_ticket, takes_area, takes_cell, follows_need, before_ticket, in_statement, step_of_unit, step_if_unit, step, quit_unless_ticket, quit_of_unit, quit_if_unit, quit, transition, state_after, run}
use Rattle.dbtg_step.specs.Inside.Step.{IfMoved}
use Rattle.dbtg_unit.specs.declared.moves.Move.{Move}
use Rattle.dbtg_unit.specs.declared.moves.Move.TheVariants.{Step, Quit}
use Rattle.dbtg_step.specs.Machine.Lawful.{Lawful}
use Rattle.dbtg_step.proofs.EachEvent.UnitFacts.{may_make}
use Rattle.dbtg_step.proofs.EachEvent.Updates.{safe_update_keeps}
use Rattle.dbtg_step.proofs.EachEvent.Events.{begin_is_safe, same_is_safe, area_is_safe, take_is_safe, back_is_safe, leave_is_safe, over_is_safe, quit_is_safe}
use Rattle.dbtg_step.proofs.EachEvent.Tickets.{ticket_keeps}

module _ (D : SequentialDatabase) (laws : IsSequentialDatabase D) (opening : SequentialState D) (s : State D) (l : Lawful D opening s) (u : ℕ) where
  Keeps : Transition D → Type 0
  Keeps r = IfMoved D r (Lawful D opening)

  after_ticket_keeps : (state : UnitState D) (w : StatementProgress D) → unit_at s.units u ≡ Some state → state.progress ≡ Some w → (more : Bool) (cells : List (HeldCell D.Cell D.Value)) (areas : List ℕ) → w.cells ≡ cells → w.areas ≡ areas → Lawful D opening (after_ticket D s u state w more cells areas)
  unfolding after_ticket unless_over
  after_ticket_keeps state w at is true cells areas cs rs = safe_update_keeps D opening s u state s.location state.guesses _ l at (same_is_safe D laws opening s u state w _ l at is refl refl refl refl)
  after_ticket_keeps state w at is false (h ∷ hs) areas cs rs = safe_update_keeps D opening s u state _ state.guesses _ l at (over_is_safe D laws opening s u _ (record w { cells = hs }) areas hs refl (back_is_safe D laws opening s u state w (record w { cells = hs }) h l at is cs refl refl refl))
  after_ticket_keeps state w at is false [] (a ∷ areas) cs rs = safe_update_keeps D opening s u state s.location state.guesses _ l at (over_is_safe D laws opening s u s.location (record w { areas = areas }) areas [] cs (leave_is_safe D laws opening s u state w (record w { areas = areas }) a l at is cs cs rs refl refl))
  after_ticket_keeps state w at is false [] [] cs rs = safe_update_keeps D opening s u state s.location state.guesses None l at (over_is_safe D laws opening s u s.location w [] [] cs (same_is_safe D laws opening s u state w w l at is refl refl refl refl))

  follows_need_keeps : (state : UnitState D) (w : StatementProgress D) (x : D.Statement) (xs : List D.Statement) → unit_at s.units u ≡ Some state → state.progress ≡ Some w → w.ticket ≡ None → state.remaining ≡ x ∷ xs → (n : NextNeed D.Cell D.Guesses) → next_need D opening s state w x ≡ n → IfMoved D (follows_need D opening s u state w x xs n) (Lawful D opening)
  unfolding follows_need next_need IfMoved takes_area takes_cell
  follows_need_keeps state w x xs at is no_ticket remaining (NeedsArea a) e = area (any_other (conflicts D w.exclusive a) u s.units) refl
    where
      area : (b : Bool) → any_other (conflicts D w.exclusive a) u s.units ≡ b → IfMoved D (takes_area D s u state w a b) (Lawful D opening)
      area true q = tt
      area false q = safe_update_keeps D opening s u state s.location state.guesses _ l at (area_is_safe D laws opening s u state w a l at is q)
  follows_need_keeps state w x xs at is no_ticket remaining (NeedsCell c) e = cell (s.location c) refl
    where
      within : In (D.area c) w.areas
      within = laws.in_area (replay D opening s.history).database _ u state.unit x state.guesses w.areas w.cells c (may_make D opening s l u state at x xs remaining) e

      cell : (p : CellLocation D.Value) → s.location c ≡ p → IfMoved D (takes_cell D s u state w c p) (Lawful D opening)
      cell (HeldBy o) q = tt
      cell (Home v) q = safe_update_keeps D opening s u state _ state.guesses _ l at (take_is_safe D laws opening s u state w c v l at is no_ticket within q)
  follows_need_keeps state w x xs at is no_ticket remaining (StaleGuesses g) e = safe_update_keeps D opening s u state s.location g _ l at (same_is_safe D laws opening s u state w _ l at is refl refl refl refl)
  follows_need_keeps state w x xs at is no_ticket remaining NeedsNothing e = ticket_keeps D laws opening s u state w x xs l at is remaining e

  before_ticket_keeps : (state : UnitState D) (w : StatementProgress D) (x : D.Statement) (xs : List D.Statement) → unit_at s.units u ≡ Some state → state.progress ≡ Some w → w.ticket ≡ None → state.remaining ≡ x ∷ xs → (turning_back : Bool) (cells : List (HeldCell D.Cell D.Value)) → w.cells ≡ cells → IfMoved D (before_ticket D opening s u state w x xs turning_back cells) (Lawful D opening)
  unfolding before_ticket IfMoved
  before_ticket_keeps state w x xs at is no_ticket remaining true (h ∷ hs) cs = safe_update_keeps D opening s u state _ state.guesses _ l at (back_is_safe D laws opening s u state w _ h l at is cs refl refl refl)
  before_ticket_keeps state w x xs at is no_ticket remaining true [] cs = follows_need_keeps state w x xs at is no_ticket remaining _ refl
  before_ticket_keeps state w x xs at is no_ticket remaining false cells cs = follows_need_keeps state w x xs at is no_ticket remaining _ refl

  in_statement_keeps : (state : UnitState D) (w : StatementProgress D) → unit_at s.units u ≡ Some state → state.progress ≡ Some w → (t : Option ℕ) (remaining : List D.Statement) → w.ticket ≡ t → state.remaining ≡ remaining → IfMoved D (in_statement D opening s u state w t remaining) (Lawful D opening)
  unfolding in_statement IfMoved
  in_statement_keeps state w at is (Some t) remaining q e = after_ticket_keeps state w at is (ltb w.linked (length w.cells)) w.cells w.areas refl refl
  in_statement_keeps state w at is None (x ∷ xs) q e = before_ticket_keeps state w x xs at is q e w.turning_back w.cells refl
  in_statement_keeps state w at is None [] q e = tt

  step_of_unit_keeps : (state : UnitState D) → unit_at s.units u ≡ Some state → (o : Option (StatementProgress D)) (remaining : List D.Statement) → state.progress ≡ o → state.remaining ≡ remaining → IfMoved D (step_of_unit D opening s u state o remaining) (Lawful D opening)
  unfolding step_of_unit IfMoved
  step_of_unit_keeps state at (Some w) remaining is e = in_statement_keeps state w at is w.ticket remaining refl e
  step_of_unit_keeps state at None (x ∷ xs) is e = safe_update_keeps D opening s u state s.location state.guesses _ l at (begin_is_safe D laws opening s u state x l at is)
  step_of_unit_keeps state at None [] is e = tt

  step_if_unit_keeps : (o : Option (UnitState D)) → unit_at s.units u ≡ o → IfMoved D (step_if_unit D opening s u o) (Lawful D opening)
  unfolding step_if_unit IfMoved
  step_if_unit_keeps None at = tt
  step_if_unit_keeps (Some state) at = step_of_unit_keeps state at state.progress state.remaining refl refl

  pub step_keeps : IfMoved D (step D opening s u) (Lawful D opening)
  unfolding step
  step_keeps = step_if_unit_keeps (unit_at s.units u) refl

  quit_unless_ticket_keeps : (state : UnitState D) (w : StatementProgress D) → unit_at s.units u ≡ Some state → state.progress ≡ Some w → (t : Option ℕ) → IfMoved D (quit_unless_ticket D s u state w t) (Lawful D opening)
  unfolding quit_unless_ticket IfMoved
  quit_unless_ticket_keeps state w at is (Some t) = tt
  quit_unless_ticket_keeps state w at is None = safe_update_keeps D opening s u state _ state.guesses _ l at (quit_is_safe D laws opening s u state w l at is)

  quit_of_unit_keeps : (state : UnitState D) → unit_at s.units u ≡ Some state → (o : Option (StatementProgress D)) → state.progress ≡ o → IfMoved D (quit_of_unit D s u state o) (Lawful D opening)
  unfolding quit_of_unit IfMoved
  quit_of_unit_keeps state at None is = tt
  quit_of_unit_keeps state at (Some w) is = quit_unless_ticket_keeps state w at is w.ticket

  quit_if_unit_keeps : (o : Option (UnitState D)) → unit_at s.units u ≡ o → IfMoved D (quit_if_unit D s u o) (Lawful D opening)
  unfolding quit_if_unit IfMoved
  quit_if_unit_keeps None at = tt
  quit_if_unit_keeps (Some state) at = quit_of_unit_keeps state at state.progress refl

  pub quit_keeps : IfMoved D (quit D s u) (Lawful D opening)
  unfolding quit
  quit_keeps = quit_if_unit_keeps (unit_at s.units u) refl

module _ (D : SequentialDatabase) (laws : IsSequentialDatabase D) (opening : SequentialState D) where
  after_keeps : (s : State D) (r : Transition D) → Lawful D opening s → IfMoved D r (Lawful D opening) → Lawful D opening (state_after D s r)
  unfolding state_after IfMoved
  after_keeps s (MovedTo t) l h = h
  after_keeps s IsBlocked l h = l
  after_keeps s IsIdle l h = l

  pub move_keeps : (s : State D) (m : Move) → Lawful D opening s → Lawful D opening (state_after D s (transition D opening s m))
  unfolding transition
  move_keeps s (Step u) l = after_keeps s _ l (step_keeps D laws opening s l u)
  move_keeps s (Quit u) l = after_keeps s _ l (quit_keeps D laws opening s l u)

  -- after every list of moves
  pub run_keeps : (s : State D) (ms : List Move) → Lawful D opening s → Lawful D opening (run D opening s ms)
  unfolding run
  run_keeps s [] l = l
  run_keeps s (m ∷ ms) l = run_keeps (state_after D s (transition D opening s m)) ms (move_keeps s m l)

  -- after each event
  pub event_keeps : (s t : State D) (m : Move) → Lawful D opening s → transition D opening s m ≡ MovedTo t → Lawful D opening t
  unfolding state_after
  event_keeps s t m l e = subst (Lawful D opening) (ap (state_after D s) e) (move_keeps s m l)
