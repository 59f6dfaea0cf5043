use Rattle.std.proofs.Common.{◌≡◌, ◌-◌}
use Rattle.dbtg_unit.specs.Hands.Erasing.{brought}
use Rattle.dbtg_erase.specs.WorkList.{gone_in, most_gone, taken_in}
use Rattle.dbtg_erase.proofs.work_list.gone.Given as goal

abbrev pub invariant-loop-place : goal.invariant-loop-place
invariant-loop-place l =
    brought (taken_in l.schema l.held l.option) (most_gone l.schema l.capacity - l.place) l.place l.gone ≡ gone_in l.schema l.capacity l.held l.option l.key
