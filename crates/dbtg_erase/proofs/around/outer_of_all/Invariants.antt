use Rattle.std.proofs.Common.{◌≡◌, ◌++◌, drop}
use Rattle.std.specs.List.{flat_map}
use Rattle.dbtg_erase.specs.NextCell.{outer_names}
use Rattle.dbtg_erase.proofs.around.outer_of_all.Given as goal

abbrev pub invariant-loop-key : goal.invariant-loop-key
invariant-loop-key l = l.names.items ++ flat_map (outer_names l.schema l.held) (drop l.key-index l.gone) ≡ flat_map (outer_names l.schema l.held) l.gone
