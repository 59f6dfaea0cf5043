-- In every state that is reached from the start by steps and quits, where a unit is in mid-statement some unit's next step is an event.
use Rattle.std.proofs.Common.{ℕ, ◌≡◌, Bool, List, [], ◌∷◌, Some}
use Rattle.dbtg_step.specs.Machine.SequentialDatabase.{SequentialDatabase, unit_at}
use Rattle.dbtg_step.specs.Inside.SequentialDatabase.{IsSequentialDatabase}
use Rattle.dbtg_step.specs.Machine.Machine.{StatementProgress, UnitState, State, SequentialState}
use Rattle.dbtg_step.specs.Machine.Step.{Transition, MovedTo, IsBlocked, IsIdle, transition, state_after, run}
use Rattle.dbtg_step.specs.Inside.Step.{IfMoved}
use Rattle.dbtg_unit.specs.declared.moves.Move.{Move}
use Rattle.dbtg_unit.specs.declared.moves.Move.TheVariants.{Step, Quit}
use Rattle.dbtg_step.specs.Machine.Lawful.{Lawful, IsOpening}
use Rattle.dbtg_step.specs.Machine.NeverStuck.{SomeUnitMoves, NeedsInOrder}
use Rattle.dbtg_step.specs.Inside.NeverStuck.{AllInTurn, IsStrictOrder}
use Rattle.dbtg_step.proofs.EachEvent.Keeps.{move_keeps, run_keeps}
use Rattle.dbtg_step.proofs.Runs.Opening.{opening_is_lawful}
use Rattle.dbtg_step.proofs.EachEvent.Turns.{step_in_turn, quit_in_turn}
use Rattle.dbtg_step.proofs.Runs.Ordered.{ordered}
use Rattle.dbtg_step.proofs.Runs.Waiting.{never_stuck}

module _ (D : SequentialDatabase) (laws : IsSequentialDatabase D) (opening : SequentialState D) (below : D.Cell → D.Cell → Bool) (order : IsStrictOrder D below) (names : NeedsInOrder D below) where
  after_in_turn : (s : State D) (r : Transition D) → AllInTurn D below s → IfMoved D r (AllInTurn D below) → AllInTurn D below (state_after D s r)
  unfolding state_after IfMoved
  after_in_turn s (MovedTo t) o h = h
  after_in_turn s IsBlocked o h = o
  after_in_turn s IsIdle o h = o

  move_in_turn : (s : State D) (m : Move) → Lawful D opening s → AllInTurn D below s → AllInTurn D below (state_after D s (transition D opening s m))
  unfolding transition
  move_in_turn s (Step u) l o = after_in_turn s _ o (step_in_turn D below names opening s l o u)
  move_in_turn s (Quit u) l o = after_in_turn s _ o (quit_in_turn D below names opening s l o u)

  run_in_turn : (s : State D) (ms : List Move) → Lawful D opening s → AllInTurn D below s → AllInTurn D below (run D opening s ms)
  unfolding run
  run_in_turn s [] l o = o
  run_in_turn s (m ∷ ms) l o = run_in_turn (state_after D s (transition D opening s m)) ms (move_keeps D laws opening s m l) (move_in_turn s m l o)

  pub start_in_turn : (s : State D) → IsOpening D opening s → AllInTurn D below s
  start_in_turn s b = record { each = λ u state w at is t. let i = b.idle u state at in let e = i.0 in absurd (cc (e, is)) }

  pub every_run_never_stuck : (s : State D) (ms : List (Move)) → (b : IsOpening D opening s) → (u : ℕ) (state : UnitState D) (w : StatementProgress D) → unit_at (run D opening s ms).units u ≡ Some state → state.progress ≡ Some w →
      SomeUnitMoves D opening (run D opening s ms)
  every_run_never_stuck s ms b u state w at is =
      let first = opening_is_lawful D laws opening s b in
      let last = run_keeps D laws opening s ms first in
      never_stuck D laws opening below order (run D opening s ms) last (ordered D laws below names opening (run D opening s ms) last (run_in_turn s ms first (start_in_turn s b))) u state w at is
