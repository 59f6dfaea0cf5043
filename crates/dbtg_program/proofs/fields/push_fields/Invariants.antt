use Rattle.std.proofs.Common.{◌≡◌, ◌++◌, drop, map}
use Rattle.dbtg_program.specs.Values.{field_of, fields_of}
use Rattle.dbtg_program.proofs.fields.push_fields.Given as goal

abbrev pub invariant-loop-item : goal.invariant-loop-item
invariant-loop-item l = l.fields.items ++ map (field_of l.rtype) (drop l.item-index l.item-items) ≡ l.initial.fields.items ++ fields_of l.rtype
