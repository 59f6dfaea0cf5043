-- What statements keep of the guesses holds of each unit's guesses after every list of moves.
use Rattle.std.proofs.Common.{ℕ, ◌≡◌, Bool, true, false, ltb, List, [], ◌∷◌, length, Option, Some, None, inl, inr, refl, subst}
use Rattle.dbtg_step.specs.Machine.SequentialDatabase.{HeldCell, SequentialDatabase, NextNeed, NeedsArea, NeedsCell, StaleGuesses, NeedsNothing, MayMake, unit_at}
use Rattle.dbtg_step.specs.Inside.SequentialDatabase.{IsSequentialDatabase}
use Rattle.dbtg_step.specs.Machine.Machine.{CellLocation, Home, HeldBy, StatementProgress, UnitState, State, SequentialState, replay}
use Rattle.dbtg_step.specs.Machine.Step.{next_need, conflicts, any_other, Transition, MovedTo, IsBlocked, IsIdle, updated, with_progress, with_ticket, after_ticket, takes_area, takes_cell, follows_need, before_ticket, in_statement, step_of_unit, step_if_unit, step, quit_unless_ticket, quit_of_unit, quit_if_unit, quit, transition, state_after, run}
use Rattle.dbtg_step.specs.Inside.Step.{IfMoved}
use Rattle.dbtg_unit.specs.declared.moves.Move.{Move}
use Rattle.dbtg_unit.specs.declared.moves.Move.TheVariants.{Step, Quit}
use Rattle.dbtg_step.specs.Machine.Lawful.{Lawful}
use Rattle.dbtg_step.proofs.EachEvent.Keeps.{move_keeps}
use Rattle.dbtg_step.proofs.EachEvent.UnitFacts.{may_make}
use Rattle.dbtg_step.proofs.EachEvent.UnitLists.{set_found}

module _ (D : SequentialDatabase) (P : D.Guesses → Type 0) where
  -- a statement that a unit may make keeps P of the guesses, at its ticket and where the unit turns back
  pub record KeepsGuesses : Type 0 where
    pub at_ticket : (db : D.Db) (units : List D.Unit) (u : ℕ) (unit : D.Unit) (x : D.Statement) (g : D.Guesses) → MayMake D db units u unit x → P g → P (D.guesses_after db unit x g)
    pub turned_back : (db : D.Db) (units : List D.Unit) (u : ℕ) (unit : D.Unit) (x : D.Statement) (g others : D.Guesses) (areas : List ℕ) (cells : List (HeldCell D.Cell D.Value)) →
        MayMake D db units u unit x → P g → D.need db unit x g areas cells ≡ StaleGuesses others → P others

  -- P of the guesses of each unit
  pub record AllGuesses (s : State D) : Type 0 where
    pub each : (u : ℕ) (state : UnitState D) → unit_at s.units u ≡ Some state → P state.guesses

  updated_guesses : (s : State D) (u : ℕ) (state : UnitState D) (location : D.Cell → CellLocation D.Value) (guesses : D.Guesses) (progress : Option (StatementProgress D)) → AllGuesses s → P guesses → AllGuesses (updated D s u state location guesses progress)
  unfolding updated
  updated_guesses s u state location guesses progress all p = record {
    each = λ v b e. elim (set_found s.units u v (with_progress D state guesses progress) b e) [
      | inl q ↦ subst (λ (y : UnitState D). P y.guesses) q.1 p
      | inr q ↦ all.each v b q.1
    ];
  }

module _ (D : SequentialDatabase) (P : D.Guesses → Type 0) (keeps : KeepsGuesses D P) (opening : SequentialState D) (s : State D) (l : Lawful D opening s) (all : AllGuesses D P s) (u : ℕ) where
  after_ticket_keeps : (state : UnitState D) (w : StatementProgress D) → P state.guesses → (more : Bool) (cells : List (HeldCell D.Cell D.Value)) (areas : List ℕ) → AllGuesses D P (after_ticket D s u state w more cells areas)
  unfolding after_ticket
  after_ticket_keeps state w p true cells areas = updated_guesses D P s u state s.location state.guesses _ all p
  after_ticket_keeps state w p false (h ∷ hs) areas = updated_guesses D P s u state _ state.guesses _ all p
  after_ticket_keeps state w p false [] (a ∷ areas) = updated_guesses D P s u state s.location state.guesses _ all p
  after_ticket_keeps state w p false [] [] = updated_guesses D P s u state s.location state.guesses None all p

  ticket_keeps : (state : UnitState D) (w : StatementProgress D) (x : D.Statement) (xs : List D.Statement) → unit_at s.units u ≡ Some state → P state.guesses → state.remaining ≡ x ∷ xs → AllGuesses D P (with_ticket D opening s u state w x xs)
  unfolding with_ticket
  ticket_keeps state w x xs at p remaining =
      let q = replay D opening s.history in
      let after : P (D.guesses_after q.database state.unit x state.guesses) = keeps.at_ticket q.database q.units u state.unit x state.guesses (may_make D opening s l u state at x xs remaining) p in
      record {
        each = λ v b e. elim (set_found s.units u v _ b e) [
          | inl r ↦ subst (λ (y : UnitState D). P y.guesses) r.1 after
          | inr r ↦ all.each v b r.1
        ];
      }

  follows_need_keeps : (state : UnitState D) (w : StatementProgress D) (x : D.Statement) (xs : List D.Statement) → unit_at s.units u ≡ Some state → P state.guesses → state.remaining ≡ x ∷ xs →
      (n : NextNeed D.Cell D.Guesses) → next_need D opening s state w x ≡ n → IfMoved D (follows_need D opening s u state w x xs n) (AllGuesses D P)
  unfolding follows_need next_need IfMoved takes_area takes_cell
  follows_need_keeps state w x xs at p remaining (NeedsArea a) e = area (any_other (conflicts D w.exclusive a) u s.units)
    where
      area : (b : Bool) → IfMoved D (takes_area D s u state w a b) (AllGuesses D P)
      area true = tt
      area false = updated_guesses D P s u state s.location state.guesses _ all p
  follows_need_keeps state w x xs at p remaining (NeedsCell c) e = cell (s.location c)
    where
      cell : (o : CellLocation D.Value) → IfMoved D (takes_cell D s u state w c o) (AllGuesses D P)
      cell (HeldBy other) = tt
      cell (Home v) = updated_guesses D P s u state _ state.guesses _ all p
  follows_need_keeps state w x xs at p remaining (StaleGuesses others) e =
      updated_guesses D P s u state s.location others _ all
      (keeps.turned_back (replay D opening s.history).database (replay D opening s.history).units u state.unit x state.guesses others w.areas w.cells (may_make D opening s l u state at x xs remaining) p e)
  follows_need_keeps state w x xs at p remaining NeedsNothing e = ticket_keeps state w x xs at p remaining

  before_ticket_keeps : (state : UnitState D) (w : StatementProgress D) (x : D.Statement) (xs : List D.Statement) → unit_at s.units u ≡ Some state → P state.guesses → state.remaining ≡ x ∷ xs → (turning_back : Bool) (cells : List (HeldCell D.Cell D.Value)) →
      IfMoved D (before_ticket D opening s u state w x xs turning_back cells) (AllGuesses D P)
  unfolding before_ticket IfMoved
  before_ticket_keeps state w x xs at p remaining true (h ∷ hs) = updated_guesses D P s u state _ state.guesses _ all p
  before_ticket_keeps state w x xs at p remaining true [] = follows_need_keeps state w x xs at p remaining _ refl
  before_ticket_keeps state w x xs at p remaining false cells = follows_need_keeps state w x xs at p remaining _ refl

  in_statement_keeps : (state : UnitState D) (w : StatementProgress D) → unit_at s.units u ≡ Some state → P state.guesses → (t : Option ℕ) (remaining : List D.Statement) → state.remaining ≡ remaining → IfMoved D (in_statement D opening s u state w t remaining) (AllGuesses D P)
  unfolding in_statement IfMoved
  in_statement_keeps state w at p (Some t) remaining e = after_ticket_keeps state w p (ltb w.linked (length w.cells)) w.cells w.areas
  in_statement_keeps state w at p None (x ∷ xs) e = before_ticket_keeps state w x xs at p e w.turning_back w.cells
  in_statement_keeps state w at p None [] e = tt

  step_of_unit_keeps : (state : UnitState D) → unit_at s.units u ≡ Some state → P state.guesses → (o : Option (StatementProgress D)) (remaining : List D.Statement) → state.remaining ≡ remaining → IfMoved D (step_of_unit D opening s u state o remaining) (AllGuesses D P)
  unfolding step_of_unit IfMoved
  step_of_unit_keeps state at p (Some w) remaining e = in_statement_keeps state w at p w.ticket remaining e
  step_of_unit_keeps state at p None (x ∷ xs) e = updated_guesses D P s u state s.location state.guesses _ all p
  step_of_unit_keeps state at p None [] e = tt

  step_if_unit_keeps : (o : Option (UnitState D)) → unit_at s.units u ≡ o → IfMoved D (step_if_unit D opening s u o) (AllGuesses D P)
  unfolding step_if_unit IfMoved
  step_if_unit_keeps None at = tt
  step_if_unit_keeps (Some state) at = step_of_unit_keeps state at (all.each u state at) state.progress state.remaining refl

  pub step_keeps_guesses : IfMoved D (step D opening s u) (AllGuesses D P)
  unfolding step
  step_keeps_guesses = step_if_unit_keeps (unit_at s.units u) refl

  quit_unless_ticket_keeps : (state : UnitState D) (w : StatementProgress D) → P state.guesses → (t : Option ℕ) → IfMoved D (quit_unless_ticket D s u state w t) (AllGuesses D P)
  unfolding quit_unless_ticket IfMoved
  quit_unless_ticket_keeps state w p (Some t) = tt
  quit_unless_ticket_keeps state w p None = updated_guesses D P s u state _ state.guesses _ all p

  quit_of_unit_keeps : (state : UnitState D) → P state.guesses → (o : Option (StatementProgress D)) → IfMoved D (quit_of_unit D s u state o) (AllGuesses D P)
  unfolding quit_of_unit IfMoved
  quit_of_unit_keeps state p None = tt
  quit_of_unit_keeps state p (Some w) = quit_unless_ticket_keeps state w p w.ticket

  quit_if_unit_keeps : (o : Option (UnitState D)) → unit_at s.units u ≡ o → IfMoved D (quit_if_unit D s u o) (AllGuesses D P)
  unfolding quit_if_unit IfMoved
  quit_if_unit_keeps None at = tt
  quit_if_unit_keeps (Some state) at = quit_of_unit_keeps state (all.each u state at) state.progress

  pub quit_keeps_guesses : IfMoved D (quit D s u) (AllGuesses D P)
  unfolding quit
  quit_keeps_guesses = quit_if_unit_keeps (unit_at s.units u) refl

module _ (D : SequentialDatabase) (laws : IsSequentialDatabase D) (P : D.Guesses → Type 0) (keeps : KeepsGuesses D P) (opening : SequentialState D) where
  after_keeps : (s : State D) (r : Transition D) → AllGuesses D P s → IfMoved D r (AllGuesses D P) → AllGuesses D P (state_after D s r)
  unfolding state_after IfMoved
  after_keeps s (MovedTo t) all h = h
  after_keeps s IsBlocked all h = all
  after_keeps s IsIdle all h = all

  move_keeps_guesses : (s : State D) (m : Move) → Lawful D opening s → AllGuesses D P s → AllGuesses D P (state_after D s (transition D opening s m))
  unfolding transition
  move_keeps_guesses s (Step u) l all = after_keeps s _ all (step_keeps_guesses D P keeps opening s l all u)
  move_keeps_guesses s (Quit u) l all = after_keeps s _ all (quit_keeps_guesses D P keeps opening s l all u)

  -- after every list of moves
  pub run_keeps_guesses : (s : State D) (ms : List Move) → Lawful D opening s → AllGuesses D P s → AllGuesses D P (run D opening s ms)
  unfolding run
  run_keeps_guesses s [] l all = all
  run_keeps_guesses s (m ∷ ms) l all = run_keeps_guesses (state_after D s (transition D opening s m)) ms (move_keeps D laws opening s m l) (move_keeps_guesses s m l all)
