-- The way back from a statement that was made whole.
-- c is the name of a cell, e a cell with its name, n the number of a statement, from 0.
use Rattle.std.specs.Prelude.{ℕ, suc, ◌+◌, ◌-◌, ◌≤◌, ◌≡◌, true, false, not, List, [], ◌∷◌, ◌++◌, Some, length, option_map, option_to_list, slice_get, if◌then◌else◌}
use Rattle.std.specs.List.{flat_map, list_all}
use Rattle.dbtg_schema.specs.Lists.{Lists}
use Rattle.dbtg_cells.specs.CellNumbers.{is_cell}
use Rattle.dbtg_cells.specs.Cells.{shown}
use Rattle.dbtg_cells.specs.Names.{name_eq}
use Rattle.dbtg_cells.specs.Shown.{CellValue}
use Rattle.dbtg_cells.specs.declared.cell.Cell.{Cell}
use Rattle.dbtg_cells.specs.declared.name.CellName.{CellName}
use Rattle.dbtg_unit.specs.Database.Laws.Replay.{State, unit_of}
use Rattle.dbtg_unit.specs.Database.State.Base.{Database}
use Rattle.dbtg_unit.specs.Database.State.Cells.{cell}
use Rattle.dbtg_unit.specs.Database.State.Legal.{pairwise}
use Rattle.dbtg_unit.specs.Database.Statements.Effect.{effect}
use Rattle.dbtg_unit.specs.Hands.Hands.{Hands, cell_of}
use Rattle.dbtg_unit.specs.Hands.Lends.{with_cell}
use Rattle.dbtg_unit.specs.Hands.Local.{Agrees, AllAgree, holds}
use Rattle.dbtg_unit.specs.declared.statement.Statement.{Statement}
use Rattle.dbtg_unit.specs.declared.unit.Entry.{Entry}
use Rattle.dbtg_unit.specs.declared.unit.Unit.{Unit}
use Rattle.dbtg_step.specs.declared.way_back.WayBack.{WayBack}
use Rattle.dbtg_step.specs.Core.Reversible.{OnlyChanged, is_named, made_first}
use Rattle.dbtg_step.specs.Core.Whole.{Making, state_now}

-- these names and one more, if it is not among them
abbrev pub with_name : List CellName → CellName → List CellName
with_name names c = if is_named names c then names else names ++ c ∷ []

-- these names and those of another list that they do not have yet, each once
abbrev pub with_names : List CellName → List CellName → List CellName
with_names names [] = names
with_names names (c ∷ cs) = with_names (with_name names c) cs

-- what the held cells of these names show, for each name of which one is held
abbrev pub values_at : List (CellName × Cell) → List CellName → List (CellName × CellValue)
values_at cells = flat_map (λ c. option_to_list (option_map (λ x. (c, shown x)) (cell_of c cells)))

-- the held cells, with each of these copies in the place of the cell of its name
abbrev pub with_copies : List (CellName × Cell) → List (CellName × Cell) → List (CellName × Cell)
with_copies [] cells = cells
with_copies (e ∷ es) cells = with_copies es (with_cell e.0 e.1 cells)

-- the copies are as the database was before, and each cell of which there is no copy was as it is after
pub record LeadBack (schema : Lists) (capacity : ℕ) (before after : Database) (copies : List (CellName × Cell)) : Type 0 where
  pub copies_are : AllAgree schema capacity before copies
  pub others : (c : CellName) → holds copies c ≡ false → cell schema capacity after c ≡ cell schema capacity before c

-- the way leads back from the statement's effect on each database to which what is held belongs, and to this unit; it names held cells,
-- each once, and the effect changes no others
pub record IsWayBack (schema : Lists) (capacity : ℕ) (unit : Unit) (hands : Hands) (x : Statement) (way : WayBack) : Type 0 where
  pub cells : (db : Database) → Agrees schema capacity db hands unit → LeadBack schema capacity db (effect schema capacity db unit x).database way.cells
  pub only : (db : Database) → Agrees schema capacity db hands unit → OnlyChanged schema capacity way.names db (effect schema capacity db unit x).database
  pub held : (db : Database) → Agrees schema capacity db hands unit → list_all (holds hands.cells) way.names ≡ true
  pub once : pairwise (λ c d. not (name_eq c d)) way.names ≡ true
  pub unit_is : way.unit ≡ unit

-- the state before statement n
abbrev pub state_before : Making → ℕ → State
state_before m n = state_now (made_first n m)

-- the way leads back over statement n: from the database after it to that before it, and to its unit; it names cells of the schema, each
-- once, and the statement changed no others
pub record LeadsOver (m : Making) (n : ℕ) (way : WayBack) : Type 0 where
  pub cells : LeadBack m.schema m.capacity (state_before m n).database (state_before m (suc n)).database way.cells
  pub only : OnlyChanged m.schema m.capacity way.names (state_before m n).database (state_before m (suc n)).database
  pub are_cells : list_all (is_cell m.schema m.capacity) way.names ≡ true
  pub once : pairwise (λ c d. not (name_eq c d)) way.names ≡ true
  pub unit : (entry : Entry) → slice_get m.history n ≡ Some entry → unit_of (state_before m n) entry.unit ≡ Some way.unit

-- there is a way back over each of the last statements, in their order
pub record HasWaysBack (m : Making) (ways : List WayBack) : Type 0 where
  pub few : length ways ≤ length m.history
  pub each : (k : ℕ) (way : WayBack) → slice_get ways k ≡ Some way → LeadsOver m (length m.history - length ways + k) way
