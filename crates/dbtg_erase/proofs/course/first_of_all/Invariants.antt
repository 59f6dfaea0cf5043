use Rattle.std.proofs.Common.{◌≡◌, drop}
use Rattle.std.specs.List.{flat_map}
use Rattle.dbtg_erase.specs.NextCell.{first_missing}
use Rattle.dbtg_erase.specs.WorkList.{cells_of_gone}
use Rattle.dbtg_erase.proofs.course.first_of_all.Given as goal

abbrev pub invariant-loop-key : goal.invariant-loop-key
invariant-loop-key l =
    first_missing l.held (flat_map (cells_of_gone l.schema l.held) (drop l.key-index l.gone)) ≡ first_missing l.held (flat_map (cells_of_gone l.schema l.held) l.gone)
