-- Databases that differ in the order in which units opened an area: statements get the same answers from both, for ever.
-- a is an area, u a unit.
use Rattle.std.specs.Prelude.{ℕ, ◌≡◌, ◌==◌, List, Option, filter}
use Rattle.dbtg_schema.specs.Lists.{Lists}
use Rattle.dbtg_cells.specs.declared.key.DbKey.{DbKey}
use Rattle.dbtg_cells.specs.declared.key.Owner.{Owner}
use Rattle.dbtg_cells.specs.declared.usage.Mode.{Mode}
use Rattle.dbtg_unit.specs.declared.statement.Statement.{Statement}
use Rattle.dbtg_unit.specs.declared.unit.Unit.{Unit}
use Rattle.dbtg_unit.specs.Database.State.Base.{Record}
use Rattle.dbtg_unit.specs.Database.Laws.Replay.{State, answers, state_after}

-- how a unit has an area open
abbrev pub uses_of : ℕ → List (ℕ × Mode) → List (ℕ × Mode)
uses_of u = filter (λ e. e.0 == u)

-- a state without the order in which units opened an area: for each area it says how each unit has it open
pub record Unordered : Type 0 where
  pub records : DbKey → Option Record
  pub lists : ℕ → Owner → Option (List DbKey)
  pub last : ℕ → ℕ → ℕ
  pub uses : ℕ → ℕ → List (ℕ × Mode)
  pub units : List Unit

abbrev pub unordered : State → Unordered
unordered s =
    record {
      records = s.database.records;
      lists = s.database.lists;
      last = s.database.last;
      uses = λ a u. uses_of u (s.database.usage a);
      units = s.units;
    }

-- the same statements get the same answers from both states, and lead to states that differ at most in that order
pub record GoOnAlike (schema : Lists) (capacity : ℕ) (one other : State) (statements : List (ℕ × Statement)) : Type 0 where
  pub answers_are : answers schema capacity one statements ≡ answers schema capacity other statements
  pub alike : unordered (state_after schema capacity one statements) ≡ unordered (state_after schema capacity other statements)

-- this holds for states that differ at most in that order, whatever the statements
abbrev pub OrderOfOpeningIsNoState : Type 0
OrderOfOpeningIsNoState =
    (schema : Lists) (capacity : ℕ) (one other : State) (statements : List (ℕ × Statement)) → unordered one ≡ unordered other → GoOnAlike schema capacity one other statements
