-- Rounds of orders.
use Rattle.std.proofs.Common.{◌≡◌, ℕ, ◌+◌, List, [], ◌++◌, refl, add-one}
use Rattle.inventory_clerks.specs.declared.order.Order.{Order}
use Rattle.inventory_clerks.specs.Inside.Orders.{rounds_of}

pub no_round : (orders : List Order) → rounds_of 0 orders ≡ []
unfolding rounds_of
no_round orders = refl

pub one_round_more : (n : ℕ) (orders : List Order) → rounds_of (n + 1) orders ≡ rounds_of n orders ++ orders
unfolding rounds_of
one_round_more n orders = rw add-one refl
