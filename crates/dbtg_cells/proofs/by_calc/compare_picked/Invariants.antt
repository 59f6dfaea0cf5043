use Rattle.std.proofs.Common.{◌≡◌, drop}
use Rattle.std.specs.Cmp.Lexicographic.{slice_cmp}
use Rattle.dbtg_cells.specs.Keys.{picked}
use Rattle.dbtg_cells.specs.Inside.ByCalc.{value_cmp}
use Rattle.dbtg_cells.proofs.by_calc.compare_picked.Given as goal

abbrev pub invariant-loop-i : goal.invariant-loop-i
invariant-loop-i l = slice_cmp value_cmp (picked (drop l.i l.item_numbers) l.items) (drop l.i l.values) ≡ slice_cmp value_cmp (picked l.item_numbers l.items) l.values
