use Rattle.dbtg_cells.proofs.NumbersOfCells.{stands_at}
use Rattle.dbtg_cells.specs.CellNumbers.{cells_in_order}
use Rattle.dbtg_cells.proofs.laws.a_cell_stands_at_its_number.Goals as goal

pub returns : goal.returns
returns c schema capacity number name e = stands_at name (cells_in_order schema capacity) number e
