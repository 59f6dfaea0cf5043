use Rattle.std.proofs.Common.{◌≡◌, ◌++◌, ◌<◌, [], get_or, length, reverse}
use Rattle.dbtg_explore.proofs.orders.Orders.order.Given as goal

abbrev pub invariant-loop-link : goal.invariant-loop-link
invariant-loop-link l = record {
  within : l.at < length l.self;
  gone : get_or l.self l.at [] ++ reverse l.turns.items ≡ get_or l.self l.place [];
}

abbrev pub decreases-loop-link : goal.decreases-loop-link
decreases-loop-link l = l.at
