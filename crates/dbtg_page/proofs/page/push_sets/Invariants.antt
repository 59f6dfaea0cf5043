use Rattle.std.proofs.Common.{◌≡◌, ◌++◌, map, take}
use Rattle.std.specs.List.{flat_map}
use Rattle.dbtg_page.specs.Json.{field}
use Rattle.dbtg_page.proofs.page.push_sets.Given as goal

abbrev pub invariant-loop-set : goal.invariant-loop-set
invariant-loop-set l = l.out.items ≡ l.initial.out.items ++ flat_map field (map (λ s. s.name) (take l.set-index l.sets))
