use Rattle.std.proofs.Common.{◌≡◌, ◌-◌, map, filter, slice_get}
use Rattle.dbtg_cells.specs.Keys.{has_type}
use Rattle.dbtg_cells.specs.Inside.Chain.{read}
use Rattle.dbtg_cells.proofs.links.nth_along.Given as goal

abbrev pub invariant-loop-turn : goal.invariant-loop-turn
invariant-loop-turn l =
    slice_get (filter (has_type l.rtype) (map (λ e. e.0) (read l.direction (l.limit - l.turn) l.nodes.slots l.at))) l.left
    ≡ slice_get (filter (has_type l.rtype) (map (λ e. e.0) (read l.direction l.limit l.nodes.slots l.fn.start))) l.fn.n
