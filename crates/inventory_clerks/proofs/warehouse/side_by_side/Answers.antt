use Rattle.std.proofs.Crossing.{crosses}
use denote.Param.Send.{sendable}
use Rattle.dbtg_run.proofs.Crosses.{database_sync, unit_send}
use Rattle.inventory_clerks.proofs.Crosses.{order_sync}
use Rattle.inventory_clerks.proofs.warehouse.side_by_side.Goals as goal

pub join-backs-requires-send-F : goal.join-backs-requires-send-F
join-backs-requires-send-F g c κs within = search (sendable, crosses, database_sync, order_sync, unit_send) depth 40 fits 20000

pub join-backs-requires-send-A : goal.join-backs-requires-send-A
join-backs-requires-send-A g c κs within = search (sendable, crosses, unit_send) depth 40
