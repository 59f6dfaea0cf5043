-- A word beside `Orders` that private functions and lemmas use.
use Rattle.std.specs.Prelude.{ℕ, zero, suc, ◌+◌, List, [], ◌++◌}
use Rattle.inventory_clerks.specs.declared.order.Order.{Order}

-- the orders this many times, one round after another
unfoldable pub rounds_of : ℕ → List Order → List Order
rounds_of zero orders = []
rounds_of (suc n) orders = rounds_of n orders ++ orders
