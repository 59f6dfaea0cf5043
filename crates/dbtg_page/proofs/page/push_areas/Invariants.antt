use Rattle.std.proofs.Common.{◌≡◌, ◌++◌, map, take}
use Rattle.std.specs.List.{flat_map}
use Rattle.dbtg_page.specs.Json.{field}
use Rattle.dbtg_page.proofs.page.push_areas.Given as goal

abbrev pub invariant-loop-area : goal.invariant-loop-area
invariant-loop-area l = l.out.items ≡ l.initial.out.items ++ flat_map field (map (λ a. a.name) (take l.area-index l.areas))
