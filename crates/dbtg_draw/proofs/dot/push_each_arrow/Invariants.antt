use Rattle.std.proofs.Common.{◌≡◌, ◌++◌, take}
use Rattle.std.specs.List.{flat_map}
use Rattle.dbtg_draw.specs.Dot.{member_edge}
use Rattle.dbtg_draw.proofs.dot.push_each_arrow.Given as goal

abbrev pub invariant-loop-member : goal.invariant-loop-member
invariant-loop-member l = l.out.items ≡ l.initial.out.items ++ flat_map (member_edge l.schema l.set) (take l.member-index l.members)
