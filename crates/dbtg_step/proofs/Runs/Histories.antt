-- A history is never rewritten, and a script never changed.
use Rattle.std.proofs.Common.{ℕ, ◌≡◌, Bool, true, false, List, [], ◌∷◌, ◌++◌, map, Option, Some, None, refl, sym, ap, ◌∙◌, append_assoc, append-nil}
use Rattle.dbtg_unit.specs.declared.moves.Move.{Move}
use Rattle.dbtg_unit.specs.declared.moves.Move.TheVariants.{Step, Quit}
use Rattle.dbtg_step.specs.Machine.SequentialDatabase.{HeldCell, NextNeed, NeedsArea, NeedsCell, StaleGuesses, NeedsNothing, SequentialDatabase, unit_at}
use Rattle.dbtg_step.specs.Machine.Machine.{CellLocation, Home, HeldBy, StatementProgress, UnitState, HistoryEntry, State, SequentialState}
use Rattle.dbtg_step.proofs.EachEvent.UnitLists.{map_set_same}
use Rattle.dbtg_step.specs.Machine.Step.{updated, with_ticket, after_ticket, takes_area, takes_cell, follows_need, before_ticket, in_statement, step_of_unit, step_if_unit, step, quit_unless_ticket, quit_of_unit, quit_if_unit, quit, Transition, MovedTo, IsBlocked, IsIdle, transition, state_after, run, any_other, conflicts}
use Rattle.dbtg_step.specs.Inside.Step.{IfMoved}

module _ (D : SequentialDatabase) (opening : SequentialState D) (s : State D) where
  -- t has the entries of s, and then perhaps others, and the same scripts
  record Extends (t : State D) : Type 0 where
    more : List (HistoryEntry D)
    history : t.history ≡ s.history ++ more
    scripts : map (λ (x : UnitState D). x.script) t.units ≡ map (λ (x : UnitState D). x.script) s.units

  extends_itself : Extends s
  extends_itself = record { more = []; history = sym (append-nil s.history); scripts = refl }

  module _ (u : ℕ) (state : UnitState D) (at : unit_at s.units u ≡ Some state) where
    updated_extends : (location : D.Cell → CellLocation D.Value) (g : D.Guesses) (p : Option (StatementProgress D)) → Extends (updated D s u state location g p)
    unfolding updated
    updated_extends location g p = record { more = []; history = sym (append-nil s.history); scripts = map_set_same (λ (x : UnitState D). x.script) s.units u state _ at refl }

    ticket_extends : (w : StatementProgress D) (x : D.Statement) (xs : List D.Statement) → Extends (with_ticket D opening s u state w x xs)
    unfolding with_ticket
    ticket_extends w x xs = record { more = _; history = refl; scripts = map_set_same (λ (x : UnitState D). x.script) s.units u state _ at refl }

    after_ticket_extends : (w : StatementProgress D) (b : Bool) (cells : List (HeldCell D.Cell D.Value)) (areas : List ℕ) → Extends (after_ticket D s u state w b cells areas)
    unfolding after_ticket
    after_ticket_extends w true cells areas = updated_extends _ _ _
    after_ticket_extends w false (h ∷ hs) areas = updated_extends _ _ _
    after_ticket_extends w false [] (a ∷ areas) = updated_extends _ _ _
    after_ticket_extends w false [] [] = updated_extends _ _ _

    follows_need_extends : (w : StatementProgress D) (x : D.Statement) (xs : List D.Statement) (n : NextNeed D.Cell D.Guesses) → IfMoved D (follows_need D opening s u state w x xs n) Extends
    unfolding follows_need takes_area takes_cell IfMoved
    follows_need_extends w x xs (NeedsArea a) = go (any_other (conflicts D w.exclusive a) u s.units)
      where
        go : (b : Bool) → IfMoved D (takes_area D s u state w a b) Extends
        go true = tt
        go false = updated_extends _ _ _
    follows_need_extends w x xs (NeedsCell c) = go (s.location c)
      where
        go : (p : CellLocation D.Value) → IfMoved D (takes_cell D s u state w c p) Extends
        go (HeldBy v) = tt
        go (Home v) = updated_extends _ _ _
    follows_need_extends w x xs (StaleGuesses g) = updated_extends _ _ _
    follows_need_extends w x xs NeedsNothing = ticket_extends w x xs

    before_ticket_extends : (w : StatementProgress D) (x : D.Statement) (xs : List D.Statement) (b : Bool) (cells : List (HeldCell D.Cell D.Value)) → IfMoved D (before_ticket D opening s u state w x xs b cells) Extends
    unfolding before_ticket IfMoved
    before_ticket_extends w x xs true (h ∷ hs) = updated_extends _ _ _
    before_ticket_extends w x xs true [] = follows_need_extends w x xs _
    before_ticket_extends w x xs false cells = follows_need_extends w x xs _

    in_statement_extends : (w : StatementProgress D) (t : Option ℕ) (xs : List D.Statement) → IfMoved D (in_statement D opening s u state w t xs) Extends
    unfolding in_statement IfMoved
    in_statement_extends w (Some t) xs = after_ticket_extends w _ _ _
    in_statement_extends w None (x ∷ xs) = before_ticket_extends w x xs _ _
    in_statement_extends w None [] = tt

    step_of_unit_extends : (p : Option (StatementProgress D)) (xs : List D.Statement) → IfMoved D (step_of_unit D opening s u state p xs) Extends
    unfolding step_of_unit IfMoved
    step_of_unit_extends (Some w) xs = in_statement_extends w _ xs
    step_of_unit_extends None (x ∷ xs) = updated_extends _ _ _
    step_of_unit_extends None [] = tt

    quit_of_unit_extends : (p : Option (StatementProgress D)) → IfMoved D (quit_of_unit D s u state p) Extends
    unfolding quit_of_unit quit_unless_ticket IfMoved
    quit_of_unit_extends None = tt
    quit_of_unit_extends (Some w) = go w.ticket
      where
        go : (t : Option ℕ) → IfMoved D (quit_unless_ticket D s u state w t) Extends
        go (Some t) = tt
        go None = updated_extends _ _ _

  step_extends : (u : ℕ) → IfMoved D (step D opening s u) Extends
  unfolding step step_if_unit IfMoved
  step_extends u = go (unit_at s.units u) refl
    where
      go : (o : Option (UnitState D)) → unit_at s.units u ≡ o → IfMoved D (step_if_unit D opening s u o) Extends
      go None at = tt
      go (Some state) at = step_of_unit_extends u state at state.progress state.remaining

  quit_extends : (u : ℕ) → IfMoved D (quit D s u) Extends
  unfolding quit quit_if_unit IfMoved
  quit_extends u = go (unit_at s.units u) refl
    where
      go : (o : Option (UnitState D)) → unit_at s.units u ≡ o → IfMoved D (quit_if_unit D s u o) Extends
      go None at = tt
      go (Some state) at = quit_of_unit_extends u state at state.progress

  after_extends : (r : Transition D) → IfMoved D r Extends → Extends (state_after D s r)
  unfolding state_after IfMoved
  after_extends (MovedTo t) h = h
  after_extends IsBlocked h = extends_itself
  after_extends IsIdle h = extends_itself

  move_extends : (m : Move) → Extends (state_after D s (transition D opening s m))
  unfolding transition
  move_extends (Step u) = after_extends _ (step_extends u)
  move_extends (Quit u) = after_extends _ (quit_extends u)

module _ (D : SequentialDatabase) (opening : SequentialState D) where
  pub run_extends : (s : State D) (moves : List Move) → (more : List (HistoryEntry D)) × ((run D opening s moves).history ≡ s.history ++ more)
  unfolding run
  run_extends s [] = ([], sym (append-nil s.history))
  run_extends s (m ∷ ms) =
      let first = move_extends D opening s m in
      let rest = run_extends (state_after D s (transition D opening s m)) ms in
      (first.more ++ rest.0, rest.1 ∙ (ap (λ h. h ++ rest.0) first.history ∙ append_assoc s.history first.more rest.0))

  pub run_keeps_scripts : (s : State D) (moves : List Move) → map (λ (x : UnitState D). x.script) (run D opening s moves).units ≡ map (λ (x : UnitState D). x.script) s.units
  unfolding run
  run_keeps_scripts s [] = refl
  run_keeps_scripts s (m ∷ ms) = run_keeps_scripts (state_after D s (transition D opening s m)) ms ∙ (move_extends D opening s m).scripts
