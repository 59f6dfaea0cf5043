-- What each kind of cell shows, and the room that is reserved in it, which is not shown.
use Rattle.std.specs.Prelude.{ℕ, List, Option}
use Rattle.dbtg_cells.specs.declared.key.DbKey.{DbKey}
use Rattle.dbtg_cells.specs.declared.key.Owner.{Owner}
use Rattle.dbtg_cells.specs.declared.key.Value.{Value}
use Rattle.dbtg_cells.specs.declared.usage.Mode.{Mode}
use Rattle.dbtg_cells.specs.declared.extent.Number.{Number}
use Rattle.dbtg_cells.specs.declared.ring.Occurrence.{Occurrence}
use Rattle.dbtg_cells.specs.declared.slot.Stored.{Stored}

-- who has an area open, in the order of opening; room for further ones
pub record UsageView : Type 0 where
  pub users : List (ℕ × Mode)
  pub room : ℕ

-- the numbers of a record type, from 1
pub record ExtentView : Type 0 where
  pub numbers : List Number

-- an occurrence, or none; the keys that are not members and for which there is room
pub record RingView : Type 0 where
  pub occurrence : Option Occurrence
  pub reserved : List DbKey

-- what a cell shows
pub data CellValue : Type 0 where
  UsageValue : List (ℕ × Mode) → CellValue
  ExtentValue : List Number → CellValue
  RingValue : Option Occurrence → CellValue
  SlotValue : Option Stored → CellValue

-- a record as it is stored first
abbrev pub first_version : ℕ → List Value → List (Option Owner) → Stored
first_version generation items owners = record { generation = generation; version = 1; items = items; owners = owners }
