use Rattle.std.proofs.Common.{◌≡◌, drop}
use Rattle.std.specs.List.{flat_map}
use Rattle.dbtg_unit.specs.Hands.Erasing.{with_those}
use Rattle.dbtg_erase.specs.WorkList.{taken_in, taken_of_set}
use Rattle.dbtg_erase.proofs.work_list.bring.Given as goal

abbrev pub invariant-loop-set : goal.invariant-loop-set
invariant-loop-set l =
    with_those l.gone (flat_map (taken_of_set l.schema l.held l.option l.key) (drop l.set-index l.set-items))
    ≡ with_those l.fn.gone (taken_in l.schema l.held l.option l.key)
