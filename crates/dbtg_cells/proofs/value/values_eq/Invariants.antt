use Rattle.std.proofs.Common.{◌≡◌, drop}
use Rattle.dbtg_cells.specs.Keys.{values_eq}
use Rattle.dbtg_cells.proofs.value.values_eq.Given as goal

abbrev pub invariant-loop-i : goal.invariant-loop-i
invariant-loop-i l = values_eq (drop l.i l.a) (drop l.i l.b) ≡ values_eq l.a l.b
