use Rattle.std.proofs.Common.{◌≡◌, ◌++◌, take}
use Rattle.std.specs.List.{flat_map}
use Rattle.dbtg_draw.specs.Listing.{area_line}
use Rattle.dbtg_draw.proofs.listing.push_each_area.Given as goal

abbrev pub invariant-loop-area : goal.invariant-loop-area
invariant-loop-area l = l.out.items ≡ l.initial.out.items ++ flat_map area_line (take l.area-index l.areas)
