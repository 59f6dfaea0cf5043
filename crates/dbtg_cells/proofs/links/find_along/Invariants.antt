use Rattle.std.proofs.Common.{◌≡◌, ◌-◌}
use Rattle.std.specs.List.{find}
use Rattle.std.specs.Option.{option_map}
use Rattle.dbtg_schema.specs.Lookups.{some_and}
use Rattle.dbtg_cells.specs.Keys.{value_eq}
use Rattle.dbtg_cells.specs.Inside.Chain.{follow}
use Rattle.dbtg_cells.proofs.links.find_along.Given as goal

abbrev pub invariant-loop-turn : goal.invariant-loop-turn
invariant-loop-turn l =
    option_map (λ e. e.0) (find (λ e. some_and (value_eq l.sort) e.1) (follow (l.limit - l.turn) l.nodes.slots l.at))
    ≡ option_map (λ e. e.0) (find (λ e. some_and (value_eq l.sort) e.1) (follow l.limit l.nodes.slots l.fn.start))
