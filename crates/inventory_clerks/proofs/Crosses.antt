-- A clerk's orders may cross threads; the library of units on threads says that his unit and its database may.
use denote.Param.Send.{IsSync, sendable}
use Rattle.std.proofs.Crossing.{crosses}
use Rattle.inventory_clerks.specs.contracts.order.Order as Order

pub order_sync : IsSync Order.the_row
order_sync = search (sendable, crosses) depth 60 fits 20000
