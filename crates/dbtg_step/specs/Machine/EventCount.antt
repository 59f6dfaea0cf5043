-- How many events a statement has.
use Rattle.std.specs.Prelude.{ℕ, zero, suc, ◌+◌, ◌*◌, ◌≡◌, false, List, [], ◌∷◌, length, Option, Some, None, option_and_then}
use Rattle.dbtg_step.specs.Machine.SequentialDatabase.{HeldCells, HeldCell, NextNeed, NeedsArea, NeedsCell, NeedsNothing, SequentialDatabase, unit_at}
use Rattle.dbtg_step.specs.Machine.Machine.{Home, StatementProgress, UnitState, State, SequentialState, replay}
use Rattle.dbtg_step.specs.Machine.Step.{any_other, conflicts, step, MovedTo}

module _ (D : SequentialDatabase) where
  -- the progress of unit u, if it is in mid-statement
  abbrev pub progress_of : State D → ℕ → Option (StatementProgress D)
  progress_of s u = option_and_then (λ (state : UnitState D). state.progress) (unit_at s.units u)

  -- unit u's statement is over after n steps of the unit, each of them an event, and not before
  unfoldable pub IsOverAfter : SequentialState D → ℕ → ℕ → State D → Type 0
  IsOverAfter opening u zero s = progress_of s u ≡ None
  IsOverAfter opening u (suc n) s = ((w : StatementProgress D) × (progress_of s u ≡ Some w)) × ((t : State D) × (step D opening s u ≡ MovedTo t) × IsOverAfter opening u n t)

  -- the next statement of unit u has n events: it is over after n steps, the first of which begins it
  unfoldable pub HasEvents : SequentialState D → ℕ → ℕ → State D → Type 0
  HasEvents opening u zero s = ⊥
  HasEvents opening u (suc n) s = (t : State D) × (step D opening s u ≡ MovedTo t) × IsOverAfter opening u n t

  -- what statement x of a unit needs next in this state, if it holds these areas and cells
  abbrev pub needs_with : SequentialState D → State D → UnitState D → D.Statement → List ℕ → HeldCells D → NextNeed D.Cell D.Guesses
  needs_with opening s state x areas cells = D.need (replay D opening s.history).database state.unit x state.guesses areas cells

  -- statement x of unit u can take these areas and cells, one after another: each is needed next, and is free
  pub data TakesAlone (opening : SequentialState D) (s : State D) (u : ℕ) (state : UnitState D) (x : D.Statement) : List ℕ → HeldCells D → Type 0 where
    NoneTaken : TakesAlone opening s u state x [] []
    AreaTaken : {areas : List ℕ} {cells : HeldCells D} {a : ℕ} → TakesAlone opening s u state x areas cells →
        needs_with opening s state x areas cells ≡ NeedsArea a → any_other (conflicts D (D.is_exclusive x) a) u s.units ≡ false →
        TakesAlone opening s u state x (a ∷ areas) cells
    CellTaken : {areas : List ℕ} {cells : HeldCells D} {h : HeldCell D.Cell D.Value} → TakesAlone opening s u state x areas cells →
        needs_with opening s state x areas cells ≡ NeedsCell h.name → s.location h.name ≡ Home h.value →
        TakesAlone opening s u state x areas (h ∷ cells)

  -- if unit u is between statements and is never blocked, its next statement with a areas and c cells has 2 + 2a + 3c events
  abbrev pub EventsAreCounted : SequentialState D → State D → Type 0
  EventsAreCounted opening s =
      (u : ℕ) (state : UnitState D) (x : D.Statement) (xs : List D.Statement) (areas : List ℕ) (cells : HeldCells D) →
      unit_at s.units u ≡ Some state → state.progress ≡ None → state.remaining ≡ x ∷ xs →
      TakesAlone opening s u state x areas cells → needs_with opening s state x areas cells ≡ NeedsNothing →
      HasEvents opening u (2 + 2 * length areas + 3 * length cells) s
