-- How a record's items are read from its cell.
use Rattle.std.specs.Prelude.{List, [], Some}
use Rattle.dbtg_cells.specs.Shown.{CellValue, SlotValue}
use Rattle.dbtg_cells.specs.declared.key.Value.{Value}

-- the items of the record that a cell shows
abbrev pub items_in : CellValue → List Value
items_in (SlotValue (Some r)) = r.items
items_in _ = []
