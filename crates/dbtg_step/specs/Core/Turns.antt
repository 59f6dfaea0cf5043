-- Interleavings by whole statements: the moves that the turns of units stand for, and what they give.
use Rattle.std.specs.Prelude.{ℕ, ◌≡◌, ◌≤◌, ◌<◌, ◌-◌, cond, nat_lt, List, [], ◌∷◌, ◌++◌, Option, Some, None, length, map}
use Rattle.std.specs.Option.{unwrap_or}
use Rattle.dbtg_schema.specs.Lists.{Lists}
use Rattle.dbtg_unit.specs.declared.moves.Move.{Move}
use Rattle.dbtg_unit.specs.declared.moves.Move.TheVariants.{Step}
use Rattle.dbtg_unit.specs.declared.statement.Statement.{Statement}
use Rattle.dbtg_step.specs.declared.results.Run.{Run}
use Rattle.dbtg_step.specs.declared.taking_turns.Turned.{Turned}
use Rattle.dbtg_step.specs.Machine.SequentialDatabase.{SequentialDatabase, unit_at, with_unit_at}
use Rattle.dbtg_step.specs.Machine.Machine.{SequentialState, State, UnitState}
use Rattle.dbtg_step.specs.Machine.Step.{MovedTo, step}
use Rattle.dbtg_step.specs.Machine.Network.{network}
use Rattle.dbtg_step.specs.Machine.Headline.{IsSequential, entry_of, machine_after, machine_of, opening_of}

-- WHAT TURNS STAND FOR

-- the turns in which a statement is made: all except those of a unit that has none left. `left` has the number that each unit has left
unfoldable pub made_turns : List ℕ → List ℕ → List ℕ
made_turns left [] = []
made_turns left (u ∷ us) = cond (nat_lt 0 (unwrap_or (unit_at left u) 0)) (u ∷ made_turns (with_unit_at left u (unwrap_or (unit_at left u) 0 - 1)) us) (made_turns left us)

module _ (D : SequentialDatabase) where
  -- each of these moves is a step of unit u that is an event, and they lead from s to t
  unfoldable pub AreEvents : SequentialState D → ℕ → State D → List Move → State D → Type 0
  AreEvents opening u s [] t = t ≡ s
  AreEvents opening u s (m ∷ ms) t = (next : State D) × (m ≡ Step u) × (step D opening s u ≡ MovedTo next) × AreEvents opening u next ms t

  -- unit u is between statements, and has these left
  pub record IsBefore (u : ℕ) (xs : List D.Statement) (s : State D) : Type 0 where
    pub state : UnitState D
    pub found : unit_at s.units u ≡ Some state
    pub between : state.progress ≡ None
    pub left : state.remaining ≡ xs

  -- what a unit has left of its script; one that does not exist has nothing
  abbrev pub left_of : Option (UnitState D) → List D.Statement
  left_of None = []
  left_of (Some state) = state.remaining

  -- the turn of a unit that has these statements left: its events up to the last of the next one; nothing if none is left
  abbrev pub IsTurnOf : SequentialState D → ℕ → List D.Statement → State D → List Move → State D → Type 0
  IsTurnOf opening u [] s moves t = (moves ≡ []) × (t ≡ s)
  IsTurnOf opening u (x ∷ xs) s moves t = AreEvents opening u s moves t × IsBefore u xs t

  -- these moves are the turn of unit u, which leads from s to t
  abbrev pub IsTurn : SequentialState D → ℕ → State D → List Move → State D → Type 0
  IsTurn opening u s moves t = IsTurnOf opening u (left_of (unit_at s.units u)) s moves t

  -- these moves are turns of these units, one after another
  unfoldable pub AreTurns : SequentialState D → List ℕ → State D → List Move → State D → Type 0
  AreTurns opening [] s moves t = (moves ≡ []) × (t ≡ s)
  AreTurns opening (u ∷ us) s moves t = (first : List Move) × (rest : List Move) × (mid : State D) × (moves ≡ first ++ rest) × IsTurn opening u s first mid × AreTurns opening us mid rest t

  -- every unit is between statements
  abbrev pub AllBetween : State D → Type 0
  AllBetween s = (u : ℕ) (state : UnitState D) → unit_at s.units u ≡ Some state → state.progress ≡ None

-- WHAT THEY GIVE

-- what a run by turns gives, where they stand for these moves: each unit is between statements, the history is that of the
-- moves and has an entry for each turn in which a statement is made, and the headline holds. Moves have no results
pub record IsRunByTurns (schema : Lists) (capacity : ℕ) (scripts : List (List Statement)) (turns : List ℕ) (moves : List Move) (given : Run) : Type 0 where
  pub results_are : given.results ≡ []
  pub moves_are : AreTurns (network schema capacity) (opening_of schema capacity (length scripts)) turns (machine_of schema capacity scripts) moves (machine_after schema capacity scripts moves)
  pub between : AllBetween (network schema capacity) (machine_after schema capacity scripts moves)
  pub history_is : given.history ≡ map entry_of (machine_after schema capacity scripts moves).history
  pub in_turn : map (λ e. e.unit) given.history ≡ made_turns (map length scripts) turns
  pub sequential : IsSequential schema capacity scripts given.history given.image given.units

-- these moves, if they are no more than the limit; none exactly if they are more
abbrev pub AreGiven : ℕ → List Move → Option (List Move) → Type 0
AreGiven limit moves None = limit < length moves
AreGiven limit moves (Some given) = (given ≡ moves) × (length moves ≤ limit)

-- a run by turns as it is handed out, with its moves
pub record TurnedIs (schema : Lists) (capacity : ℕ) (scripts : List (List Statement)) (turns : List ℕ) (limit : ℕ) (given : Turned) : Type 0 where
  pub moves : List Move
  pub run : IsRunByTurns schema capacity scripts turns moves given.run
  pub given_moves : AreGiven limit moves given.moves
