use Rattle.std.proofs.Common.{◌≡◌, ◌++◌, drop}
use Rattle.std.specs.List.{flat_map}
use Rattle.dbtg_schema.specs.Structure.{set_numbers}
use Rattle.dbtg_unit.specs.Hands.InHand.{owner_in}
use Rattle.dbtg_unit.specs.Hands.Needs.{ring_names}
use Rattle.dbtg_erase.proofs.around.push_each_ring.Given as goal

abbrev pub invariant-loop-s : goal.invariant-loop-s
invariant-loop-s l =
    l.names.items ++ flat_map (λ s. ring_names s (owner_in l.held s l.key)) (drop l.s (set_numbers l.schema))
    ≡ l.fn.names.items ++ flat_map (λ s. ring_names s (owner_in l.held s l.key)) (set_numbers l.schema)
