-- A state part by part: what tells it from others of each unit and of each cell; and its number.
-- m is a meeting, u a unit, c the name of a cell, n the number of a state, o an order.
use Rattle.std.specs.Prelude.{ℕ, true, List, [], ◌∷◌, ◌++◌, Option, if◌then◌else◌, flat_map, option_map, option_to_list, unwrap_or, length, ⊤}
use Rattle.dbtg_cells.specs.declared.name.CellName.{CellName}
use Rattle.dbtg_unit.specs.declared.unit.Entry.{Entry}
use Rattle.dbtg_unit.specs.declared.unit.Unit.{Unit}
use Rattle.dbtg_unit.specs.Database.State.Cells.{cell}
use Rattle.dbtg_step.specs.Machine.SequentialDatabase.{unit_at}
use Rattle.dbtg_states.specs.Numbers.{Numbers, NumbersState}
use Rattle.dbtg_states.specs.Parts.{Parts, shown_numbers}
use Rattle.dbtg_states.specs.Inside.SpelledUnits.{unit_numbers}
use Rattle.dbtg_explore.specs.Orders.{Meeting, can_go_on, history_of}
use Rattle.dbtg_explore.specs.States.{sequential_after, state_after}
use Rattle.dbtg_explore.specs.Versions.{unversioned, unversioned_database}
use Rattle.dbtg_explore.specs.Inside.Keys.{due_numbers, items_read_by}

-- how many records a unit keeps
abbrev pub kept_count : Option Unit → ℕ
kept_count unit = unwrap_or (option_map (λ (v : Unit). length v.kept) unit) 0

-- for a unit how many records it keeps, whether its program can go on, what counts of it, and the unit without versions
abbrev pub unit_part : Meeting → List Entry → ℕ → List ℕ
unit_part m history u =
    kept_count (unit_at (unversioned (sequential_after m history)).units u)
    ∷ (if can_go_on m history u then 1 else 0)
    ∷ flat_map (due_numbers (items_read_by m.programs u)) (option_to_list (unit_at (state_after m history).programs u))
    ++ flat_map unit_numbers (option_to_list (unit_at (unversioned (sequential_after m history)).units u))

-- what a cell says without versions
abbrev pub cell_part : Meeting → List Entry → CellName → List ℕ
cell_part m history c = shown_numbers true (length m.programs) (cell m.schema m.capacity (unversioned_database (sequential_after m history).database) c)

-- the state after a history
abbrev pub parts_of : Meeting → List Entry → Parts
parts_of m history = record { schema = m.schema; capacity = m.capacity; count = length m.programs; unit = unit_part m history; cell = cell_part m history }

-- n is the number of the state after a history
pub record IsNumberOf (m : Meeting) (kept : Numbers) (history : List Entry) (n : ℕ) : Type 0 where
  pub number : NumbersState (parts_of m history) kept n

-- each order has the number of the state to which it leads
abbrev pub AreNumbered : Meeting → Numbers → List ℕ → List (List ℕ) → Type 0
AreNumbered m kept [] [] = ⊤
AreNumbered m kept [] (o ∷ os) = ⊥
AreNumbered m kept (n ∷ ns) [] = ⊥
AreNumbered m kept (n ∷ ns) (o ∷ os) = IsNumberOf m kept (history_of m o) n × AreNumbered m kept ns os
