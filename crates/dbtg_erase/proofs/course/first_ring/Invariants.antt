use Rattle.std.proofs.Common.{◌≡◌, drop}
use Rattle.std.specs.Prelude.{filter, map}
use Rattle.dbtg_schema.specs.Structure.{owns, set_numbers}
use Rattle.dbtg_unit.specs.Hands.Erasing.{own_rings}
use Rattle.dbtg_erase.specs.NextCell.{first_missing}
use Rattle.dbtg_erase.specs.Inside.NextCell.{ring_of}
use Rattle.dbtg_erase.proofs.course.first_ring.Given as goal

abbrev pub invariant-loop-s : goal.invariant-loop-s
invariant-loop-s l =
    first_missing l.held (map (ring_of l.key) (filter (λ s. owns l.schema s l.key.rtype) (drop l.s (set_numbers l.schema)))) ≡ first_missing l.held (own_rings l.schema l.key)
