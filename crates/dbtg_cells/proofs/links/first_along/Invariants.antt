use Rattle.std.proofs.Common.{◌≡◌, ◌-◌, map, filter}
use Rattle.dbtg_schema.specs.Lookups.{first}
use Rattle.dbtg_cells.specs.Keys.{has_type}
use Rattle.dbtg_cells.specs.Inside.Chain.{read}
use Rattle.dbtg_cells.proofs.links.first_along.Given as goal

abbrev pub invariant-loop-turn : goal.invariant-loop-turn
invariant-loop-turn l =
    first (filter (has_type l.rtype) (map (λ e. e.0) (read l.direction (l.limit - l.turn) l.nodes.slots l.at)))
    ≡ first (filter (has_type l.rtype) (map (λ e. e.0) (read l.direction l.limit l.nodes.slots l.fn.start)))
