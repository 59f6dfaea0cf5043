use Rattle.dbtg_step.proofs.Network.NeededCellsExist as needed
use Rattle.dbtg_step.proofs.laws.needed_cells_exist.Goals as goal

pub returns : goal.returns
returns c schema capacity sound = needed.needed_cells_exist schema capacity sound
