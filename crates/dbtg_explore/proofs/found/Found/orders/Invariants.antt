use Rattle.std.proofs.Common.{◌≡◌, ℕ, [], get_or, map, take}
use Rattle.dbtg_explore.proofs.found.Found.orders.Given as goal

abbrev pub invariant-loop-place : goal.invariant-loop-place
invariant-loop-place l = l.orders.items ≡ map (λ (p : ℕ). get_or l.known.orders p []) (take l.place-index l.place-items)
