use Rattle.std.proofs.Common.{◌≡◌, ◌++◌, drop}
use Rattle.dbtg_draw.specs.Dot.{area_cells}
use Rattle.dbtg_draw.proofs.dot.push_each_area.Given as goal

abbrev pub invariant-loop-i : goal.invariant-loop-i
invariant-loop-i l = l.out.items ++ area_cells l.i (drop l.i l.areas) ≡ l.initial.out.items ++ area_cells 0 l.areas
