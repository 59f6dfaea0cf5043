use Rattle.std.proofs.Common.{◌≡◌, map, drop}
use Rattle.std.specs.List.{position_from}
use Rattle.std.specs.Str.{bytes_eq}
use Rattle.dbtg_schema.proofs.find.find_name.Given as goal

abbrev pub invariant-loop-i : goal.invariant-loop-i
invariant-loop-i g l = position_from (bytes_eq l.name) l.i (map g.T.HasName.name_of (drop l.i l.things)) ≡ position_from (bytes_eq l.name) 0 (map g.T.HasName.name_of l.things)
