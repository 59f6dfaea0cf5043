-- What a cell shows.
use Rattle.dbtg_cells.specs.declared.cell.Cell.{Cell}
use Rattle.dbtg_cells.specs.declared.cell.Cell.TheVariants.{Usage, Extent, Ring, Slot}
use Rattle.dbtg_cells.specs.Shown.{CellValue, UsageValue, ExtentValue, RingValue, SlotValue}

-- a cell without its room
abbrev pub shown : Cell → CellValue
shown (Usage usage) = UsageValue usage.users
shown (Extent extent) = ExtentValue extent.numbers
shown (Ring ring) = RingValue ring.occurrence
shown (Slot slot) = SlotValue slot
