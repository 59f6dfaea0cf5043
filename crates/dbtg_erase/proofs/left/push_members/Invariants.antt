use Rattle.std.proofs.Common.{◌≡◌, ◌++◌, drop}
use Rattle.std.specs.List.{flat_map}
use Rattle.dbtg_erase.specs.WorkList.{list_in, members_in_hand}
use Rattle.dbtg_erase.proofs.left.push_members.Given as goal

abbrev pub invariant-loop-set : goal.invariant-loop-set
invariant-loop-set l =
    l.members.items ++ flat_map (list_in l.held l.key) (drop l.set-index l.set-items)
    ≡ l.fn.members.items ++ members_in_hand l.fn.schema l.held l.key
