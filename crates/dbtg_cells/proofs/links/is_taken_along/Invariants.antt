use Rattle.std.proofs.Common.{◌≡◌, ◌-◌}
use Rattle.std.specs.List.{list_any}
use Rattle.dbtg_cells.specs.Members.{has_sort_key}
use Rattle.dbtg_cells.specs.Inside.Chain.{follow}
use Rattle.dbtg_cells.proofs.links.is_taken_along.Given as goal

abbrev pub invariant-loop-turn : goal.invariant-loop-turn
invariant-loop-turn l =
    list_any (has_sort_key l.left_out l.sort) (follow (l.limit - l.turn) l.nodes.slots l.at)
    ≡ list_any (has_sort_key l.left_out l.sort) (follow l.limit l.nodes.slots l.fn.start)
