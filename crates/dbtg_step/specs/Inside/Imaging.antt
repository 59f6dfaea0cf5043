-- The image of a database as it is read from its cells.
-- found has each cell by its name; t is a record type, n a number, s a set, a an area.
use Rattle.std.specs.Prelude.{ℕ, List, [], ◌∷◌, Option, Some, None, cond, map, length, option_and_then, option_map, slice_get, unwrap_or}
use Rattle.std.specs.List.{flat_map, range_with_len}
use Rattle.dbtg_schema.specs.Lists.{Lists}
use Rattle.dbtg_schema.specs.Lookups.{first}
use Rattle.dbtg_schema.specs.Structure.{is_system, owner_type, set_numbers}
use Rattle.dbtg_cells.specs.declared.cell.Cell.{Cell}
use Rattle.dbtg_cells.specs.declared.cell.Cell.TheVariants.{Ring as RingCell, Slot as SlotCell}
use Rattle.dbtg_cells.specs.declared.extent.Number.{Number}
use Rattle.dbtg_cells.specs.declared.key.DbKey.{DbKey}
use Rattle.dbtg_cells.specs.declared.key.Owner.{Owner}
use Rattle.dbtg_cells.specs.declared.key.Value.{Value}
use Rattle.dbtg_cells.specs.declared.name.CellName.{CellName}
use Rattle.dbtg_cells.specs.declared.name.CellName.TheVariants.{Usage, Extent, Ring, Slot}
use Rattle.dbtg_cells.specs.declared.ring.Occurrence.{Occurrence}
use Rattle.dbtg_cells.specs.declared.slot.Stored.{Stored}
use Rattle.dbtg_cells.specs.CellNumbers.{cell_number}
use Rattle.dbtg_cells.specs.Members.{keys_in}
use Rattle.dbtg_cells.specs.Numbers.{is_free, is_used, last_of, numbers_where}
use Rattle.dbtg_unit.specs.Hands.Hands.{cell_of}
use Rattle.dbtg_unit.specs.Database.State.Image.{Image}
use Rattle.dbtg_unit.specs.Hands.InHand.{numbers_of, users_of}
use Rattle.dbtg_step.specs.declared.imaging.CellSource.{CellSource}
use Rattle.dbtg_step.specs.declared.imaging.CellSource.TheVariants.{Parts as InParts, Hands as InHands}
use Rattle.dbtg_step.specs.declared.parts.Parts.{Parts}
use Rattle.dbtg_step.specs.declared.parts.CellLocation.{CellLocation}
use Rattle.dbtg_step.specs.declared.parts.CellLocation.TheVariants.{Home as AtHome, HeldBy as WithUnit}
use Rattle.dbtg_step.specs.declared.parts.UnitState.{UnitState}
use Rattle.dbtg_step.specs.Machine.SequentialDatabase.{unit_at}

-- WHERE A CELL IS

-- a cell at home, or in the hands of its holder
abbrev pub cell_in : List UnitState → CellName → CellLocation → Option Cell
cell_in runners c (AtHome x) = Some x
cell_in runners c (WithUnit u) = option_and_then (λ r. cell_of c r.held.cells) (unit_at runners u)

-- the cell with this name, where it is
abbrev pub found_cell : Lists → ℕ → Parts → CellName → Option Cell
found_cell schema capacity parts c = option_and_then (λ n. option_and_then (cell_in parts.runners.items c) (slice_get parts.table.items n)) (cell_number schema capacity c)

-- the cell with this name, in a core or in these hands
abbrev pub found_in : Lists → ℕ → CellSource → CellName → Option Cell
found_in schema capacity (InParts parts) c = found_cell schema capacity parts.now c
found_in schema capacity (InHands held) c = cell_of c held.now.cells

-- WHAT A CELL HAS

-- the record in a slot, none in another cell
abbrev pub stored_at : Option Cell → Option Stored
stored_at (Some (SlotCell stored)) = stored
stored_at _ = None

-- the occurrence in a ring, none in another cell
abbrev pub occurrence_at : Option Cell → Option Occurrence
occurrence_at (Some (RingCell ring)) = ring.occurrence
occurrence_at _ = None

-- key and items of the record of a number, if there is one
abbrev pub record_of : ℕ → ℕ → Option Stored → List (DbKey × List Value)
record_of t n None = []
record_of t n (Some stored) = (record { rtype = t; number = n; generation = stored.generation }, stored.items) ∷ []

-- and its version
abbrev pub version_of : ℕ → ℕ → Option Stored → List (DbKey × ℕ)
version_of t n None = []
version_of t n (Some stored) = (record { rtype = t; number = n; generation = stored.generation }, stored.version) ∷ []

-- owner and members of an occurrence, if there is one
abbrev pub list_of : Option Occurrence → List (Owner × List DbKey)
list_of None = []
list_of (Some occurrence) = (occurrence.owner, keys_in (Some occurrence)) ∷ []

-- the least free number, 0 for none
abbrev pub next_in : List Number → ℕ
next_in numbers = unwrap_or (first (numbers_where is_free numbers)) 0

-- the last generation of each number
abbrev pub generations_in : List Number → List ℕ
generations_in numbers = map (λ n. last_of n numbers) (range_with_len 1 (length numbers))

-- THE IMAGE

-- the numbers of type t that records have, by its extent
abbrev pub live_of : (CellName → Option Cell) → ℕ → List ℕ
live_of found t = numbers_where is_used (numbers_of (found (Extent t)))

-- the records of type t, by their numbers
abbrev pub records_of : (CellName → Option Cell) → ℕ → List (DbKey × List Value)
records_of found t = flat_map (λ n. record_of t n (stored_at (found (Slot t n)))) (live_of found t)

-- their versions
abbrev pub versions_of : (CellName → Option Cell) → ℕ → List (DbKey × ℕ)
versions_of found t = flat_map (λ n. version_of t n (stored_at (found (Slot t n)))) (live_of found t)

-- the lists of set s whose owners are records of type t, by the rings
abbrev pub owned_lists : (CellName → Option Cell) → ℕ → ℕ → List (Owner × List DbKey)
owned_lists found s t = flat_map (λ n. list_of (occurrence_at (found (Ring s (Some (t, n)))))) (live_of found t)

-- the lists of set s
abbrev pub lists_of : Lists → (CellName → Option Cell) → ℕ → List (Owner × List DbKey)
lists_of schema found s = cond (is_system schema s) (list_of (occurrence_at (found (Ring s None)))) (unwrap_or (option_map (owned_lists found s) (owner_type schema s)) [])

-- the image that the cells show
abbrev pub image_from : Lists → (CellName → Option Cell) → Image
image_from schema found = record {
  records = flat_map (records_of found) (range_with_len 0 (length schema.types));
  versions = flat_map (versions_of found) (range_with_len 0 (length schema.types));
  lists = map (lists_of schema found) (set_numbers schema);
  next = map (λ t. next_in (numbers_of (found (Extent t)))) (range_with_len 0 (length schema.types));
  last = map (λ t. generations_in (numbers_of (found (Extent t)))) (range_with_len 0 (length schema.types));
  usage = map (λ a. users_of (found (Usage a))) (range_with_len 0 (length schema.areas));
}
