-- Why units never wait for one another for ever: what each holds and wants, in order.
use Rattle.std.specs.Prelude.{ℕ, ◌≡◌, ◌<◌, Bool, true, false, ltb, List, [], ◌∷◌, ◌⊎◌, Option, Some, None}
use Rattle.dbtg_step.specs.Machine.SequentialDatabase.{HeldCells, HeldCell, NextNeed, NeedsArea, NeedsCell, StaleGuesses, NeedsNothing, SequentialDatabase, In, NotAmong, unit_at}
use Rattle.dbtg_step.specs.Machine.Machine.{StatementProgress, UnitState, State, SequentialState}
use Rattle.dbtg_step.specs.Machine.Step.{next_need}
use Rattle.dbtg_step.specs.Machine.NeverStuck.{TakenInTurn}

-- what a unit takes next
pub data Wanted (C : Type 0) : Type 0 where
  AnArea : ℕ → Wanted C
  ACell : C → Wanted C

module _ (D : SequentialDatabase) (below : D.Cell → D.Cell → Bool) where
  -- areas come before cells
  unfoldable pub is_below : Wanted D.Cell → Wanted D.Cell → Bool
  is_below (AnArea a) (AnArea b) = ltb a b
  is_below (AnArea a) (ACell d) = true
  is_below (ACell c) (AnArea b) = false
  is_below (ACell c) (ACell d) = below c d

  -- the area or cell of a need
  unfoldable pub wanted_by_need : NextNeed D.Cell D.Guesses → Option (Wanted D.Cell)
  wanted_by_need (NeedsArea a) = Some (AnArea a)
  wanted_by_need (NeedsCell c) = Some (ACell c)
  wanted_by_need (StaleGuesses g) = None
  wanted_by_need NeedsNothing = None

  -- what the statement needs next, but nothing while the unit turns back and holds cells
  unfoldable pub wanted_unless_turning : SequentialState D → State D → UnitState D → StatementProgress D → D.Statement → Bool → HeldCells D → Option (Wanted D.Cell)
  wanted_unless_turning opening s state w x true (h ∷ hs) = None
  wanted_unless_turning opening s state w x turning_back cells = wanted_by_need (next_need D opening s state w x)

  -- the same, but nothing with a ticket
  unfoldable pub wanted_before_ticket : SequentialState D → State D → UnitState D → StatementProgress D → Option ℕ → List D.Statement → Option (Wanted D.Cell)
  wanted_before_ticket opening s state w (Some t) remaining = None
  wanted_before_ticket opening s state w None [] = None
  wanted_before_ticket opening s state w None (x ∷ xs) = wanted_unless_turning opening s state w x w.turning_back w.cells

  -- the same, but nothing between statements
  unfoldable pub wanted_in_progress : SequentialState D → State D → UnitState D → Option (StatementProgress D) → Option (Wanted D.Cell)
  wanted_in_progress opening s state None = None
  wanted_in_progress opening s state (Some w) = wanted_before_ticket opening s state w w.ticket state.remaining

  -- the area or cell that the unit takes next
  unfoldable pub wanted : SequentialState D → State D → UnitState D → Option (Wanted D.Cell)
  wanted opening s state = wanted_in_progress opening s state state.progress

  -- what a unit in mid-statement wants respects the order of areas and cells
  pub record UnitInOrder (opening : SequentialState D) (s : State D) (state : UnitState D) (w : StatementProgress D) : Type 0 where
    -- in mid-statement without a ticket there is the statement
    pub busy : w.ticket ≡ None → (x : D.Statement) × (xs : List D.Statement) × (state.remaining ≡ x ∷ xs)
    -- an area that is wanted is above all that are held, and no cell is held
    pub areas : (a : ℕ) → wanted opening s state ≡ Some (AnArea a) → ((b : ℕ) → In b w.areas → b < a) × (w.cells ≡ [])
    -- a cell that is wanted is not held, and lies in an area that is held; it is above all that are held, or the areas are held exclusively
    pub fresh : (c : D.Cell) → wanted opening s state ≡ Some (ACell c) → NotAmong D c w.cells × In (D.area c) w.areas
    pub cells : (c : D.Cell) → wanted opening s state ≡ Some (ACell c) → (w.exclusive ≡ true) ⊎ ((h : HeldCell D.Cell D.Value) → In h w.cells → below h.name c ≡ true)

  -- each unit in mid-statement is in order
  pub record UnitsInOrder (opening : SequentialState D) (s : State D) : Type 0 where
    pub each : (u : ℕ) (state : UnitState D) (w : StatementProgress D) → unit_at s.units u ≡ Some state → state.progress ≡ Some w → UnitInOrder opening s state w

  -- a strict order of cells
  pub record IsStrictOrder : Type 0 where
    pub never : (c : D.Cell) → below c c ≡ false
    pub chain : (c d e : D.Cell) → below c d ≡ true → below d e ≡ true → below c e ≡ true

  -- a unit in mid-statement without a ticket: what it holds was taken in turn
  pub record InTurn (state : UnitState D) (w : StatementProgress D) : Type 0 where
    pub x : D.Statement
    pub xs : List D.Statement
    pub remaining : state.remaining ≡ x ∷ xs
    pub exclusive : w.exclusive ≡ D.is_exclusive x
    pub going : w.turning_back ≡ false → TakenInTurn D below state.unit x state.guesses w.areas w.cells
    pub back : w.turning_back ≡ true → TakenInTurn D below state.unit x state.guesses w.areas []

  -- each unit without a ticket took what it holds in turn
  pub record AllInTurn (s : State D) : Type 0 where
    pub each : (u : ℕ) (state : UnitState D) (w : StatementProgress D) → unit_at s.units u ≡ Some state → state.progress ≡ Some w → w.ticket ≡ None → InTurn state w
