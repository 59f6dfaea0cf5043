-- What becomes of the held cells if one of them is borrowed to be written.
use Rattle.std.specs.Prelude.{List, [], ◌∷◌, Option, cond}
use Rattle.std.specs.Borrow.{LendsIf, MutBor, Fml}
use Rattle.dbtg_cells.specs.declared.name.CellName.{CellName}
use Rattle.dbtg_cells.specs.declared.cell.Cell.{Cell}
use Rattle.dbtg_cells.specs.contracts.cell.Cell.{the_row as cell_row}
use Rattle.dbtg_cells.specs.Names.{name_eq}
use Rattle.dbtg_unit.specs.Hands.Hands.{Hands}
use Rattle.dbtg_unit.specs.contracts.held.Held.{the_row as held_row}

-- the same cells, except the one with this name
abbrev pub with_cell : CellName → Cell → List (CellName × Cell) → List (CellName × Cell)
with_cell c cell [] = []
with_cell c cell (e ∷ es) = cond (name_eq c e.0) ((e.0, cell) ∷ es) (e ∷ with_cell c cell es)

-- the hands with another cell with this name
abbrev pub holding : CellName → Hands → Cell → Hands
holding c hands cell = record hands { cells = with_cell c cell hands.cells }

-- what is written through the borrow is the cell with this name afterwards; if there is none, nothing changes
abbrev pub LendsCell : CellName → MutBor Hands → Option (MutBor Cell) → Fml
LendsCell c s r = LendsIf held_row cell_row s r (holding c s.now) s.now
