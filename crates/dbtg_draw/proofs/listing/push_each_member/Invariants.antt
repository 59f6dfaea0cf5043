use Rattle.std.proofs.Common.{◌≡◌, ◌++◌, take}
use Rattle.std.specs.List.{flat_map}
use Rattle.dbtg_draw.specs.Listing.{listed_member}
use Rattle.dbtg_draw.proofs.listing.push_each_member.Given as goal

abbrev pub invariant-loop-member : goal.invariant-loop-member
invariant-loop-member l = l.out.items ≡ l.initial.out.items ++ flat_map (listed_member l.schema l.set) (take l.member-index l.members)
