use Rattle.std.proofs.Common.{◌≡◌, ◌++◌, drop, length}
use Rattle.std.specs.List.{flat_map}
use Rattle.dbtg_program.specs.Values.{fields_of, records_from}
use Rattle.dbtg_program.proofs.fields.fields_of_types.Given as goal

abbrev pub invariant-loop-rtype : goal.invariant-loop-rtype
invariant-loop-rtype l = record {
  items : l.items.items ++ flat_map fields_of (drop l.rtype-index l.types) ≡ flat_map fields_of l.types;
  firsts : l.firsts.items ++ records_from (length l.items.items) (drop l.rtype-index l.types) ≡ records_from 0 l.types;
}
