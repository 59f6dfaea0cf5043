use Rattle.std.proofs.Common.{◌≡◌}
use Rattle.inventory_clerks.specs.Inside.Orders.{rounds_of}
use Rattle.inventory_clerks.proofs.all_rounds.Given as goal

abbrev pub invariant-rounds : goal.invariant-rounds
invariant-rounds l = l.all.items ≡ rounds_of l._round l.orders
