-- A state part by part: what tells it from others of each unit and of each cell.
-- d is a database with its history, c the name of a cell.
use Rattle.std.specs.Prelude.{ℕ, Bool, ◌==◌, not, ◌||◌, List, [], ◌∷◌, ◌++◌, flat_map, option_to_list, if◌then◌else◌}
use Rattle.std.specs.List.{list_any, range_with_len}
use Rattle.dbtg_schema.specs.Lists.{Lists}
use Rattle.dbtg_cells.specs.Numbers.{is_used}
use Rattle.dbtg_cells.specs.Shown.{CellValue, UsageValue, ExtentValue, RingValue, SlotValue}
use Rattle.dbtg_cells.specs.declared.extent.Number.{Number}
use Rattle.dbtg_cells.specs.declared.name.CellName.{CellName}
use Rattle.dbtg_cells.specs.declared.ring.Occurrence.{Occurrence}
use Rattle.dbtg_cells.specs.declared.slot.Stored.{Stored}
use Rattle.dbtg_unit.specs.Database.State.Cells.{cell}
use Rattle.dbtg_step.specs.Core.Whole.{Making, state_now}
use Rattle.dbtg_states.specs.Users.{by_unit}
use Rattle.dbtg_states.specs.Spelling.{key_numbers, list_numbers, mode_numbers, one_number, option_numbers, owner_numbers, pair_numbers, value_numbers}

-- what tells a state from others: for each unit, from 1 on, and for each cell of the schema
pub record Parts : Type 0 where
  pub schema : Lists
  pub capacity : ℕ
  pub count : ℕ
  pub unit : ℕ → List ℕ
  pub cell : CellName → List ℕ

-- a record had the number, or has it
abbrev pub was_used : Number → Bool
was_used n = not (n.last == 0) || is_used n

-- the numbers without those behind the last that was used
abbrev pub up_to_used : List Number → List Number
up_to_used [] = []
up_to_used (n ∷ ns) = if list_any was_used (n ∷ ns) then n ∷ up_to_used ns else []

-- for a number its last generation, and the CALC values of its record
abbrev pub number_numbers : Number → List ℕ
number_numbers n = n.last ∷ option_numbers (list_numbers value_numbers) n.calc

-- for an occurrence its owner, then each member with its sort key
abbrev pub occurrence_numbers : Occurrence → List ℕ
occurrence_numbers o = owner_numbers o.owner ++ flat_map (pair_numbers key_numbers (option_numbers value_numbers)) o.members

-- for a record its generation, its version or, where versions tell nothing, 1, its items, and its owner in each set
abbrev pub record_numbers : Bool → Stored → List ℕ
record_numbers versions r = r.generation ∷ (if versions then r.version else 1) ∷ list_numbers value_numbers r.items ++ flat_map (option_numbers owner_numbers) r.owners

-- all that a cell shows, but users in the order of units
abbrev pub shown_numbers : Bool → ℕ → CellValue → List ℕ
shown_numbers versions units (UsageValue users) = flat_map (pair_numbers one_number mode_numbers) (by_unit (range_with_len 1 units) users)
shown_numbers versions units (ExtentValue numbers) = flat_map number_numbers (up_to_used numbers)
shown_numbers versions units (RingValue ring) = flat_map occurrence_numbers (option_to_list ring)
shown_numbers versions units (SlotValue slot) = flat_map (record_numbers versions) (option_to_list slot)

-- what a cell of a database says, spelled for this many units, with versions or without
abbrev pub part_in : Bool → ℕ → Making → CellName → List ℕ
part_in versions units d c = shown_numbers versions units (cell d.schema d.capacity (state_now d).database c)

-- the parts of a state whose cells say this, and whose units say what is given
abbrev pub parts_in : Bool → ℕ → Making → (ℕ → List ℕ) → Parts
parts_in versions units d unit = record { schema = d.schema; capacity = d.capacity; count = units; unit = unit; cell = part_in versions units d }
