use Rattle.dbtg_cells.proofs.NumbersOfCells.{numbered_at}
use Rattle.dbtg_cells.proofs.laws.each_cell_stands_once.Goals as goal

pub returns : goal.returns
returns c = numbered_at
