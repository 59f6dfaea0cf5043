use Rattle.std.proofs.Common.{◌≡◌, ◌++◌, drop}
use Rattle.std.specs.List.{flat_map}
use Rattle.dbtg_unit.specs.Hands.Erasing.{own_rings}
use Rattle.dbtg_erase.proofs.edits.rings_of_all.Given as goal

abbrev pub invariant-loop-key : goal.invariant-loop-key
invariant-loop-key l =
    l.rings ++ (flat_map (own_rings l.schema) (drop l.key-index l.gone)) ≡ flat_map (own_rings l.schema) l.gone
