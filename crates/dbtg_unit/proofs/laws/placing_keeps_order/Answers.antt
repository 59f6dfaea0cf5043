use Rattle.dbtg_unit.proofs.laws.placing_keeps_order.Goals as goal
use Rattle.dbtg_unit.proofs.Database.Laws.PlacingOrder as PlacingOrder

pub returns : goal.returns
returns c order position key m list fresh kinds apart in_order = PlacingOrder.placing_keeps_order position key m list fresh order kinds apart in_order
