use Rattle.std.proofs.Common.{◌≡◌, drop}
use Rattle.dbtg_cells.specs.Keys.{bytes_below}
use Rattle.dbtg_cells.proofs.value.bytes_below.Given as goal

abbrev pub invariant-loop-i : goal.invariant-loop-i
invariant-loop-i l = bytes_below (drop l.i l.a) (drop l.i l.b) ≡ bytes_below l.a l.b
