use Rattle.std.proofs.Common.{◌≡◌, ◌++◌, drop}
use Rattle.std.specs.Prelude.{map, Some}
use Rattle.dbtg_cells.specs.declared.name.CellName.TheVariants.{Ring}
use Rattle.dbtg_unit.specs.Hands.Erasing.{own_rings}
use Rattle.dbtg_erase.proofs.edits.push_each_ring.Given as goal

abbrev pub invariant-loop-set : goal.invariant-loop-set
invariant-loop-set l =
    l.rings ++ (map (λ s. Ring s (Some (l.key.rtype, l.key.number))) (drop l.set-index l.set-items))
    ≡ l.fn.rings ++ (own_rings l.fn.schema l.key)
