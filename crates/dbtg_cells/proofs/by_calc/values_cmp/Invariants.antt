use Rattle.std.proofs.Common.{◌≡◌, drop}
use Rattle.std.specs.Cmp.Lexicographic.{slice_cmp}
use Rattle.dbtg_cells.specs.Inside.ByCalc.{value_cmp}
use Rattle.dbtg_cells.proofs.by_calc.values_cmp.Given as goal

abbrev pub invariant-loop-i : goal.invariant-loop-i
invariant-loop-i l = slice_cmp value_cmp (drop l.i l.a) (drop l.i l.b) ≡ slice_cmp value_cmp l.a l.b
