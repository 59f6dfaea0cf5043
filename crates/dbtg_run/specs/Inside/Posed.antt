-- What a unit's seat knows, from what the unit is and holds.
use Rattle.std.specs.Prelude.{◌≡◌, ℕ, ◌+◌, ◌-◌, ◌*◌, ◌^◌, ◌<◌, ◌≤◌, Bool, true, not, nat_lt, is_some, unwrap_or, List, [], map, reverse, length, Option, None, ◌⊎◌, ◌==◌}
use Rattle.std.specs.List.{list_all, list_any, range_with_len}
use Rattle.atomic_table.specs.Seated.{TableId}
use Rattle.dbtg_schema.specs.Sound.{IsSound}
use Rattle.dbtg_cells.specs.declared.cell.Cell.{Cell}
use Rattle.dbtg_cells.specs.declared.name.CellName.{CellName}
use Rattle.dbtg_cells.specs.CellNumbers.{cell_number, cells_in_order}
use Rattle.dbtg_cells.specs.Names.{name_eq}
use Rattle.dbtg_unit.specs.declared.unit.Entry.{Entry}
use Rattle.dbtg_unit.specs.declared.unit.Unit.{Unit}
use Rattle.dbtg_unit.specs.Database.State.Belongs.{IsUnitOf, IsWithin}
use Rattle.dbtg_unit.specs.Hands.Hands.{Hands}
use Rattle.dbtg_step.specs.Machine.TurningBack.{count}
use Rattle.dbtg_run.specs.declared.view.About.{About}
use Rattle.dbtg_run.specs.declared.view.SeatUnit.{SeatUnit}
use Rattle.dbtg_run.specs.Inside.Views.{lone, bared}
use Rattle.dbtg_run.specs.Inside.LatchRule.{Sat, area_count, cells_of_table}

-- the unit as a member of a view: its held cells without room
abbrev pub member_of : Unit → List Entry → Bool → Hands → SeatUnit
member_of unit journal exclusive hands = record { place = unit.number - 1; unit = unit; journal = journal; exclusive = exclusive; areas = hands.areas; held = bared hands.cells }

-- the number of a cell, 0 for one that the schema does not have
abbrev pub number_or_0 : About → CellName → ℕ
number_or_0 about c = unwrap_or (cell_number about.schema.value about.capacity c) 0

-- the slot of a held cell, with nothing in it
abbrev pub empty_slot : About → CellName × Cell → ℕ × Option Cell
empty_slot about e = (number_or_0 about e.0, None)

-- the slots of the held cells, which are empty, the last taken first
abbrev pub empty_slots : About → List (CellName × Cell) → List (ℕ × Option Cell)
empty_slots about cells = reverse (map (empty_slot about) cells)

-- what the seat of a unit has: the unit as its one member, and the slots of the held cells
abbrev pub posed : About → Unit → List Entry → Bool → Hands → Sat
posed about unit journal exclusive hands = (lone about (member_of unit journal exclusive hands), empty_slots about hands.cells)

-- the table has a word for the tickets, for each area and for each cell, and a slot for each cell
pub record IsSized (about : About) (z : TableId) : Type 0 where
  pub words : z.words ≡ 1 + area_count about + cells_of_table about
  pub slots : z.slots ≡ cells_of_table about
  pub small : 1 + area_count about + cells_of_table about < 2 ^ 32

-- what is held exists
pub record AreInside (about : About) (hands : Hands) : Type 0 where
  pub areas : list_all (λ a. nat_lt a (area_count about)) hands.areas ≡ true
  pub cells : list_all (λ e. is_some (cell_number about.schema.value about.capacity e.0)) hands.cells ≡ true
  pub guesses : length hands.guesses ≡ length about.schema.value.sets

-- areas are held in this mode, or none is
abbrev pub HoldsSo : Bool → Bool → Hands → Type 0
HoldsSo x exclusive hands = (hands.areas ≡ []) ⊎ (exclusive ≡ x)

-- how many areas and cells are not held
abbrev pub not_held : About → Hands → ℕ
not_held about hands =
    count (λ a. not (list_any (λ b. b == a) hands.areas)) (range_with_len 0 (area_count about))
    + count (λ c. not (list_any (λ e. name_eq c e.0) hands.cells)) (cells_in_order about.schema.value about.capacity)

-- each need that is met, each try, brings the end nearer
abbrev pub turns_left : About → ℕ → Hands → ℕ
turns_left about tries hands = tries * (area_count about + cells_of_table about + 1) + not_held about hands

-- a unit of this database
pub record IsOurs (about : About) (unit : Unit) : Type 0 where
  pub sound : IsSound about.schema.value
  pub of_schema : IsUnitOf about.schema.value unit
  pub within : IsWithin about.capacity unit
  pub numbered : 0 < unit.number
  pub inside : unit.number ≤ about.units
  pub few : about.units ≤ 8
