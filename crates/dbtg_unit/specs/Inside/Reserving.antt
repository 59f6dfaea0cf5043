-- A word beside `Reserving` that private functions and lemmas use.
use Rattle.dbtg_cells.specs.declared.cell.Cell.{Cell}
use Rattle.dbtg_cells.specs.declared.key.DbKey.{DbKey}
use Rattle.dbtg_unit.specs.Hands.Reserving.{CanTakeMember, CanTakeUser}

-- what there was room for there is still room for
pub record KeepsRoom (old new : Cell) : Type 0 where
  pub members : (k : DbKey) → CanTakeMember k old → CanTakeMember k new
  pub users : CanTakeUser old → CanTakeUser new
