use Rattle.std.proofs.Common.{◌≡◌, ◌++◌, map}
use Rattle.std.specs.Vec.Iter.{into_iter_items}
use Rattle.dbtg_going.specs.declared.member.Member.{Member}
use Rattle.dbtg_going.proofs.going.goings_of.Given as goal

-- the programs that are there and those that are left to add are all of them
abbrev pub invariant-loop-member : goal.invariant-loop-member
invariant-loop-member l = l.goings.items ++ map (λ (m : Member). m.going) (into_iter_items l.member-iterator) ≡ map (λ (m : Member). m.going) l.fn.members.items
