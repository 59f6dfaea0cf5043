-- A word beside `Course` that private functions and lemmas use.
use Rattle.std.specs.Prelude.{◌≡◌, true}
use Rattle.dbtg_cells.specs.declared.name.CellName.{CellName}
use Rattle.dbtg_unit.specs.Hands.Hands.{Hands, cell_of}
use Rattle.dbtg_unit.specs.Hands.Local.{holds}

-- each cell in the first hands is in the second, as it is
abbrev pub HasAllOf : Hands → Hands → Type 0
HasAllOf hands hands' = (c : CellName) → holds hands.cells c ≡ true → cell_of c hands'.cells ≡ cell_of c hands.cells
