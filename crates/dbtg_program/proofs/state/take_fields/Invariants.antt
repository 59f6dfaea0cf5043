use Rattle.std.proofs.Common.{◌≡◌, map, take}
use Rattle.dbtg_program.specs.Values.{as_field}
use Rattle.dbtg_program.proofs.state.take_fields.Given as goal

abbrev pub invariant-loop-item : goal.invariant-loop-item
invariant-loop-item l = l.values.items ≡ map as_field (take l.item-index l.items)
