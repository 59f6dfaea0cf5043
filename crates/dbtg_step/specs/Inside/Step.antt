-- A word beside `Step` that private functions and lemmas use.
use Rattle.dbtg_step.specs.Machine.SequentialDatabase.{SequentialDatabase}
use Rattle.dbtg_step.specs.Machine.Machine.{State}
use Rattle.dbtg_step.specs.Machine.Step.{IsBlocked, IsIdle, MovedTo, Transition}

module _ (D : SequentialDatabase) where
  -- P holds of the state after the event, if there is one
  unfoldable pub IfMoved : Transition D → (State D → Type 0) → Type 0
  IfMoved (MovedTo s) P = P s
  IfMoved IsBlocked P = Unit {0}
  IfMoved IsIdle P = Unit {0}
