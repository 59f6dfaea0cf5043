use Rattle.dbtg_cells.proofs.NumbersOfCells.{has_number}
use Rattle.dbtg_cells.proofs.laws.cells_have_numbers.Goals as goal

pub returns : goal.returns
returns c = has_number
