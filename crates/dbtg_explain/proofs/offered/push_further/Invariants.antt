use Rattle.std.proofs.Common.{◌≡◌, ◌++◌, drop, map}
use Rattle.std.specs.Prelude.{codes}
use Rattle.std.specs.List.{flat_map}
use Rattle.dbtg_explain.proofs.offered.push_further.Given as goal

abbrev pub invariant-loop-name : goal.invariant-loop-name
invariant-loop-name l = l.out.items ++ flat_map (λ name. codes ", " ++ name) (map (λ name. name.now) (drop l.name-index l.names)) ≡ l.initial.out.items ++ flat_map (λ name. codes ", " ++ name) (map (λ name. name.now) l.names)
