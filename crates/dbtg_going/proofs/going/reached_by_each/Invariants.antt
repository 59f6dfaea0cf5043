use Rattle.std.proofs.Common.{◌≡◌, ◌++◌, map}
use Rattle.std.specs.Vec.Iter.{into_iter_items}
use Rattle.dbtg_going.specs.Goings.{reached_by}
use Rattle.dbtg_going.proofs.going.reached_by_each.Given as goal

-- the programs that are listed and those that are left to list are all of them
abbrev pub invariant-loop-member : goal.invariant-loop-member
invariant-loop-member l = l.each.items ++ map reached_by (into_iter_items l.member-iterator) ≡ map reached_by l.fn.members.items
