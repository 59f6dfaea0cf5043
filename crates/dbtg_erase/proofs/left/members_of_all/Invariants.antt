use Rattle.std.proofs.Common.{◌≡◌, ◌++◌, drop}
use Rattle.std.specs.List.{flat_map}
use Rattle.dbtg_erase.specs.WorkList.{members_in_hand}
use Rattle.dbtg_erase.proofs.left.members_of_all.Given as goal

abbrev pub invariant-loop-key : goal.invariant-loop-key
invariant-loop-key l =
    l.members.items ++ flat_map (members_in_hand l.schema l.held) (drop l.key-index l.gone) ≡ flat_map (members_in_hand l.schema l.held) l.gone
