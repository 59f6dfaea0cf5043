use Rattle.std.proofs.Common.{◌≡◌, drop}
use Rattle.std.specs.List.{flat_map}
use Rattle.dbtg_schema.specs.Structure.{set_numbers}
use Rattle.dbtg_unit.specs.Hands.Needs.{first_missing, store_rings, store_rings_of}
use Rattle.dbtg_plan.proofs.storing.missing_in_any_set.Given as goal

abbrev pub invariant-loop-s : goal.invariant-loop-s
invariant-loop-s l = first_missing l.held (flat_map (store_rings_of l.schema l.unit l.key) (drop l.s (set_numbers l.schema))) ≡ first_missing l.held (store_rings l.schema l.unit l.key)
