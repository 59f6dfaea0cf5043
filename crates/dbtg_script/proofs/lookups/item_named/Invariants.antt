use Rattle.std.proofs.Common.{◌≡◌, map, drop}
use Rattle.std.specs.List.{position_from}
use Rattle.std.specs.Str.{bytes_eq}
use Rattle.dbtg_schema.specs.declared.shape.Item.{Item}
use Rattle.dbtg_script.specs.Lookups.{item_named}
use Rattle.dbtg_script.proofs.lookups.item_named.Given as goal

abbrev pub invariant-loop-i : goal.invariant-loop-i
invariant-loop-i l = position_from (bytes_eq l.name) l.i (map (λ (x : Item). x.name) (drop l.i l.items)) ≡ item_named l.schema l.fn.rtype l.name
