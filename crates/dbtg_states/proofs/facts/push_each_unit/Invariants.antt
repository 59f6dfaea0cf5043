use Rattle.std.proofs.Common.{◌≡◌, ◌++◌, take}
use Rattle.std.specs.List.{flat_map}
use Rattle.dbtg_states.specs.Named.{unit_facts}
use Rattle.dbtg_states.proofs.facts.push_each_unit.Given as goal

abbrev pub invariant-loop-unit : goal.invariant-loop-unit
invariant-loop-unit l = l.facts ≡ l.initial.facts ++ flat_map (unit_facts l.stored) (take l.unit-index l.units)
