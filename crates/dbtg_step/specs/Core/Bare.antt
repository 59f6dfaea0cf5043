-- A database in memory on which each statement is made whole, and which keeps no list of them.
use Rattle.std.specs.Prelude.{ℕ, ◌≡◌, ◌++◌, List, [], length}
use Rattle.std.specs.List.{range_with_len}
use Rattle.dbtg_schema.specs.Lists.{Lists}
use Rattle.dbtg_schema.specs.Sound.{IsSound}
use Rattle.dbtg_cells.specs.CellNumbers.{cells_in_order}
use Rattle.dbtg_unit.specs.declared.statement.Statement.{Statement}
use Rattle.dbtg_unit.specs.declared.unit.Entry.{Entry}
use Rattle.dbtg_unit.specs.declared.unit.Unit.{Unit}
use Rattle.dbtg_unit.specs.Hands.Hands.{Hands}
use Rattle.dbtg_unit.specs.Hands.Local.{AllAgree, names_of}
use Rattle.dbtg_unit.specs.Database.Laws.Replay.{IsHistoryOf, opening_state, replay}

-- WHAT A CALLER SEES

-- its schema and capacity, the areas and cells that it holds, its units, and how many statements they made
pub record Bare : Type 0 where
  pub schema : Lists
  pub capacity : ℕ
  pub hands : Hands
  pub units : List Unit
  pub count : ℕ

-- every area and every cell of the schema
pub record HoldsAll (schema : Lists) (capacity : ℕ) (hands : Hands) : Type 0 where
  pub areas : hands.areas ≡ range_with_len 0 (length schema.areas)
  pub names : names_of hands.cells ≡ cells_in_order schema capacity

-- every area and every cell, as the database of the history has it; and the units of the history
pub record IsWhole (schema : Lists) (capacity : ℕ) (hands : Hands) (units : List Unit) (history : List Entry) : Type 0 where
  pub sound : IsSound schema
  pub history_of : IsHistoryOf schema capacity (length units) history
  pub units_are : units ≡ (replay schema capacity (opening_state schema (length units)) history).units
  pub all : HoldsAll schema capacity hands
  pub cells : AllAgree schema capacity (replay schema capacity (opening_state schema (length units)) history).database hands.cells

-- it is what this history leaves
pub record StandsAfter (m : Bare) (history : List Entry) : Type 0 where
  pub whole : IsWhole m.schema m.capacity m.hands m.units history
  pub count_is : m.count ≡ length history

-- it has this many units, and nothing was made yet
pub record OpensAt (schema : Lists) (capacity units : ℕ) (m : Bare) : Type 0 where
  pub schema_is : m.schema ≡ schema
  pub capacity_is : m.capacity ≡ capacity
  pub units_are : length m.units ≡ units
  pub stands : StandsAfter m []

-- these entries continue each history after which it stands
pub record Continues (old : Bare) (entries : List Entry) (new : Bare) : Type 0 where
  pub schema_is : new.schema ≡ old.schema
  pub capacity_is : new.capacity ≡ old.capacity
  pub units_are : length new.units ≡ length old.units
  pub stands : (history : List Entry) → StandsAfter old history → StandsAfter new (history ++ entries)

-- the entry is of this unit and statement
pub record IsMadeBy (unit : ℕ) (statement : Statement) (entry : Entry) : Type 0 where
  pub unit_is : entry.unit ≡ unit
  pub statement_is : entry.statement ≡ statement
