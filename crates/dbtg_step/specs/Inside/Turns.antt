-- Words beside `Turns` that private functions and lemmas use: a turn that is not over, what turns lead to, and the statements that they make.
-- s is a state before a turn.
use Rattle.std.specs.Prelude.{ℕ, ◌≡◌, ◌≤◌, ◌++◌, List, [], ◌∷◌, None, drop, length, map, nat_lt, take}
use Rattle.std.specs.Option.{unwrap_or}
use Rattle.dbtg_unit.specs.declared.moves.Move.{Move}
use Rattle.dbtg_unit.specs.declared.statement.Statement.{Statement}
use Rattle.dbtg_step.specs.declared.taking_turns.Noted.{Noted}
use Rattle.dbtg_step.specs.Machine.SequentialDatabase.{SequentialDatabase, unit_at, with_unit_at}
use Rattle.dbtg_step.specs.Machine.Machine.{State, UnitState}
use Rattle.dbtg_step.specs.Machine.Network.{network}
use Rattle.dbtg_step.specs.Core.Parts.{CoreState, with_state}
use Rattle.dbtg_step.specs.Core.Turns.{AllBetween, AreTurns, made_turns}

-- HOW A TURN GOES

module _ (D : SequentialDatabase) where
  -- how many statements each unit has left
  abbrev pub lefts_of : State D → List ℕ
  lefts_of s = map (λ state. length state.remaining) s.units

  -- whose the entries are, and will be after these turns
  abbrev pub turns_ahead : State D → List ℕ → List ℕ
  turns_ahead s turns = map (λ e. e.unit) s.history ++ made_turns (lefts_of s) turns

-- what is noted of these moves: the first of them up to the limit, and whether there are more
pub record IsNoted (noted : Noted) (moves : List Move) : Type 0 where
  pub moves_are : noted.moves.items ≡ take noted.limit moves
  pub over : noted.over ≡ nat_lt noted.limit (length moves)

-- these moves more are noted
pub record NotesMore (old new : Noted) (moves : List Move) : Type 0 where
  pub limit : new.limit ≡ old.limit
  pub noted : (before : List Move) → IsNoted old before → IsNoted new (before ++ moves)

-- by these turns, which stand for these moves, the machine comes from c to d, where each unit is between statements again
pub record TurnsLead (c : CoreState) (turns : List ℕ) (moves : List Move) (d : CoreState) : Type 0 where
  pub reached : State (network c.schema c.capacity)
  pub is : d ≡ with_state c reached
  pub between : AllBetween (network c.schema c.capacity) reached
  pub turns_are : AreTurns (network c.schema c.capacity) c.opening turns c.state moves reached
  pub in_turn : (more : List ℕ) → turns_ahead (network c.schema c.capacity) c.state (turns ++ more) ≡ turns_ahead (network c.schema c.capacity) reached more

-- the same, and the moves are noted
pub record HaveTurned (c : CoreState) (turns : List ℕ) (d : CoreState) (before after : Noted) : Type 0 where
  pub moves : List Move
  pub lead : TurnsLead c turns moves d
  pub noted : NotesMore before after moves

-- ONE TURN

module _ (D : SequentialDatabase) where
  -- between statements, with at most n of them left
  pub record IsDone (n : ℕ) (state : UnitState D) : Type 0 where
    pub between : state.progress ≡ None
    pub few : length state.remaining ≤ n

-- TURNS MADE WHOLE

-- what unit u has left, where these are left of the scripts; one that does not exist has nothing
abbrev pub left_at : List (List Statement) → ℕ → List Statement
left_at left u = unwrap_or (unit_at left u) []

-- what is left after a turn of unit u
abbrev pub after_turn : List (List Statement) → ℕ → List (List Statement)
after_turn left u = with_unit_at left u (drop 1 (left_at left u))

-- the statement that such a turn makes, with its unit, if the unit has one
abbrev pub made_in_turn : List (List Statement) → ℕ → List (ℕ × Statement)
made_in_turn left u = map (λ x. (u, x)) (take 1 (left_at left u))

-- the statements that these turns make, each with its unit, where these are left of the scripts
unfoldable pub statements_in_turn : List (List Statement) → List ℕ → List (ℕ × Statement)
statements_in_turn left [] = []
statements_in_turn left (u ∷ us) = made_in_turn left u ++ statements_in_turn (after_turn left u) us
