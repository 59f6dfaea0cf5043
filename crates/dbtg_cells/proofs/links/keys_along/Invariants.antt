use Rattle.std.proofs.Common.{◌≡◌, ◌-◌, ◌++◌, map}
use Rattle.dbtg_cells.specs.Inside.Chain.{read}
use Rattle.dbtg_cells.proofs.links.keys_along.Given as goal

abbrev pub invariant-loop-turn : goal.invariant-loop-turn
invariant-loop-turn l =
    l.keys.items ++ map (λ e. e.0) (read l.direction (l.limit - l.turn) l.nodes.slots l.at)
    ≡ map (λ e. e.0) (read l.direction l.limit l.nodes.slots l.fn.start)
