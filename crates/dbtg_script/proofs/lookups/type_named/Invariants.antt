use Rattle.std.proofs.Common.{◌≡◌, map, drop}
use Rattle.std.specs.List.{position_from}
use Rattle.std.specs.Str.{bytes_eq}
use Rattle.dbtg_schema.specs.declared.shape.RecordType.{RecordType}
use Rattle.dbtg_script.specs.Lookups.{type_named}
use Rattle.dbtg_script.proofs.lookups.type_named.Given as goal

abbrev pub invariant-loop-i : goal.invariant-loop-i
invariant-loop-i l = position_from (bytes_eq l.name) l.i (map (λ (x : RecordType). x.name) (drop l.i l.types)) ≡ type_named l.schema l.name
