-- A word beside `Drawn` that private functions and lemmas use.
use Rattle.std.specs.Prelude.{List, map}
use Rattle.dbtg_cells.specs.declared.cell.Cell.{Cell}
use Rattle.dbtg_cells.specs.declared.name.CellName.{CellName}
use Rattle.dbtg_unit.specs.Hands.Prepared.{Plan, edited_values, values_of}
use Rattle.dbtg_run.specs.Inside.Views.{bare}

-- the held cells after the plan, without room
abbrev pub cells_after : Plan → List (CellName × Cell) → List (CellName × Cell)
cells_after plan cells = map (λ v. (v.0, bare v.1)) (edited_values plan.cells (values_of cells))
