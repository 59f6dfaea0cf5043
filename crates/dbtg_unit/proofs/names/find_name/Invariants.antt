use Rattle.std.proofs.Common.{◌≡◌, drop}
use Rattle.std.specs.List.{position_from}
use Rattle.dbtg_cells.specs.Names.{name_eq}
use Rattle.dbtg_unit.proofs.names.find_name.Given as goal

abbrev pub invariant-loop-i : goal.invariant-loop-i
invariant-loop-i l = position_from (name_eq l.name) l.i (drop l.i l.names) ≡ position_from (name_eq l.name) 0 l.names
