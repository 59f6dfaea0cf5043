use Rattle.std.proofs.Common.{◌≡◌, ◌++◌, map, take}
use Rattle.std.specs.List.{flat_map}
use Rattle.dbtg_page.specs.Json.{field}
use Rattle.dbtg_page.proofs.page.push_types.Given as goal

abbrev pub invariant-loop-rtype : goal.invariant-loop-rtype
invariant-loop-rtype l = l.out.items ≡ l.initial.out.items ++ flat_map field (map (λ t. t.name) (take l.rtype-index l.types))
